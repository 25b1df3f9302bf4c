use Rattle.std.proofs.Common.{sym, ◌∙◌}
use Rattle.mm_script.proofs.FieldSteps.{id_first}
use Rattle.mm_script.proofs.documents.with_id.Goals as goal

pub returns-then-begins_with_id : goal.returns-then-begins_with_id
returns-then-begins_with_id c = id_first c.args.made c.args.doc (sym c.begins_with_id.ensures ∙ c.if-begins_with_id.true)
