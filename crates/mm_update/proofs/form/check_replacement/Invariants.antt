use Rattle.std.proofs.Common.{◌≡◌, drop}
use Rattle.mm_bson.specs.View.{elements_of}
use Rattle.mm_update.specs.Form.{first_operator}
use Rattle.mm_update.proofs.form.check_replacement.Given as goal

abbrev pub invariant-loop-field : goal.invariant-loop-field
invariant-loop-field l = first_operator (elements_of (drop l.field-index l.fields)) ≡ first_operator (elements_of l.fields)
