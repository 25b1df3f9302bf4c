use Rattle.std.proofs.Common.{◌≡◌, ◌<◌, length}
use Rattle.mm_bson.specs.Tree.{append, depth}
use Rattle.mm_bson.specs.View.{elements_of}
use Rattle.mm_bson.specs.Spelling.{AreElements}
use Rattle.mm_script.specs.Documents.{without_first_id}
use Rattle.mm_script.proofs.documents.add_others.Given as goal

abbrev pub invariant-fields : goal.invariant-fields
invariant-fields l = record {
  added : append l.doc (without_first_id (elements_of l.rest)) ≡ append l.fn.doc (without_first_id (elements_of l.fields));
  named : AreElements (elements_of l.rest);
  shallow : depth (elements_of l.rest) < 100;
}

abbrev pub decreases-fields : goal.decreases-fields
decreases-fields l = length l.rest
