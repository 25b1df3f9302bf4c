use Rattle.std.proofs.Common.{◌≡◌, drop}
use Rattle.mm_bson.specs.Tree.{append}
use Rattle.mm_bson.specs.View.{elements_of}
use Rattle.mm_update.specs.Changed.{other_fields}
use Rattle.mm_update.specs.Drafted.{AreNames}
use Rattle.mm_update.proofs.apply.add_others.Given as goal

abbrev pub invariant-loop-field : goal.invariant-loop-field
invariant-loop-field l = record {
  parts : append l.draft (other_fields (elements_of (drop l.field-index l.fields))) ≡ append l.fn.draft (other_fields (elements_of l.fields));
  names : AreNames (elements_of (drop l.field-index l.fields));
}
