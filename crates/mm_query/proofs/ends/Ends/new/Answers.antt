use Rattle.std.proofs.Common.{refl, ap}
use Rattle.mm_bson.specs.Tree.{string, document, array, binary}
use Rattle.mm_query.proofs.ends.Ends.new.Goals as goal

pub invariant_of-result : goal.invariant_of-result
invariant_of-result c = record {
  is_first = refl;
  is_missing = refl;
  is_text = ap string c.in_ok-text.ensures;
  is_inner = ap document c.in_ok-inner.ensures;
  is_list = ap array c.in_ok-list.ensures;
  is_blob = ap (binary 0) c.in_ok-bytes.ensures;
  is_id = refl;
  is_no = refl;
  is_yes = refl;
  is_moment = refl;
  is_last = refl;
}
