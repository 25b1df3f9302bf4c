use Rattle.std.proofs.Common.{◌≡◌, drop}
use Rattle.mm_bson.specs.Tree.{append}
use Rattle.mm_bson.specs.View.{elements_of}
use Rattle.mm_update.specs.Drafted.{AreNames}
use Rattle.mm_update.proofs.draft.Draft.open.Given as goal

abbrev pub invariant-loop-element : goal.invariant-loop-element
invariant-loop-element l = record {
  parts : append l.draft (elements_of (drop l.element-index l.elements)) ≡ l.doc;
  names : AreNames (elements_of (drop l.element-index l.elements));
}
