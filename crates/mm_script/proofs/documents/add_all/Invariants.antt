use Rattle.std.proofs.Common.{◌≡◌, ◌<◌, drop}
use Rattle.mm_bson.specs.Tree.{append, depth}
use Rattle.mm_bson.specs.View.{elements_of}
use Rattle.mm_bson.specs.Spelling.{AreElements}
use Rattle.mm_script.proofs.documents.add_all.Given as goal

abbrev pub invariant-loop-field : goal.invariant-loop-field
invariant-loop-field l = record {
  added : append l.doc (elements_of (drop l.field-index l.fields)) ≡ append l.fn.doc (elements_of l.fields);
  named : AreElements (elements_of (drop l.field-index l.fields));
  shallow : depth (elements_of (drop l.field-index l.fields)) < 100;
}
