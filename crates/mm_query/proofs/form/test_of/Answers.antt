use Rattle.std.proofs.Common.{sym, ap, ◌∙◌}
use Rattle.mm_query.specs.Form.{operator_of}
use Rattle.mm_query.proofs.Keeps.{operator_named}
use Rattle.mm_query.proofs.form.test_of.Goals as goal

pub returns-in_ok-operand-in-Some-clause-name : goal.returns-in_ok-operand-in-Some-clause-name
returns-in_ok-operand-in-Some-clause-name c = operator_named c.args.field.now.name c.in-Some.operator (ap operator_of (sym c.as_bytes.ensures.bytes) ∙ sym c.operator_of.ensures ∙ c.in-Some.is)
