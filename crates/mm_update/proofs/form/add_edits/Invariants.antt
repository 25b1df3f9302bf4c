use Rattle.std.proofs.Common.{◌≡◌, ◌++◌, drop}
use Rattle.mm_bson.specs.View.{elements_of}
use Rattle.mm_update.specs.Edit.{paths, Knows, edits_at}
use Rattle.mm_update.specs.Form.{entries, first_wrong}
use Rattle.mm_update.specs.Drafted.{AreNames}
use Rattle.mm_update.proofs.form.add_edits.Given as goal

abbrev pub invariant-loop-field : goal.invariant-loop-field
invariant-loop-field l = record {
  parts : l.steps.items ++ edits_at l.operator (elements_of (drop l.field-index l.fields)) ≡ l.fn.steps.items ++ edits_at l.operator (elements_of l.fields);
  wrong : first_wrong (paths l.steps.items) (entries (edits_at l.operator (elements_of (drop l.field-index l.fields)))) ≡ first_wrong (paths l.fn.steps.items) (entries (edits_at l.operator (elements_of l.fields)));
  names : AreNames (elements_of (drop l.field-index l.fields));
  known : Knows l.earlier l.steps.items;
}
