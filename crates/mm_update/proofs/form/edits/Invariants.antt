use Rattle.std.proofs.Common.{◌≡◌, ◌++◌, [], drop}
use Rattle.mm_bson.specs.View.{elements_of}
use Rattle.mm_update.specs.Edit.{paths, Knows, edits_of}
use Rattle.mm_update.specs.Form.{places, first_wrong}
use Rattle.mm_update.proofs.form.edits.Given as goal

abbrev pub invariant-loop-field : goal.invariant-loop-field
invariant-loop-field l = record {
  parts : l.steps.items ++ edits_of (elements_of (drop l.field-index l.fields)) ≡ edits_of (elements_of l.fields);
  wrong : first_wrong (paths l.steps.items) (places (elements_of (drop l.field-index l.fields))) ≡ first_wrong [] (places (elements_of l.fields));
  known : Knows l.earlier l.steps.items;
}
