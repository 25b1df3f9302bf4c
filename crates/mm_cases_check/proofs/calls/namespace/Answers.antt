use Rattle.std.proofs.Common.{◌∙◌, sym}
use Rattle.mm_cases_check.proofs.CallLaws.{absent_of}
use Rattle.mm_cases_check.proofs.calls.namespace.Goals as goal

pub find-requires : goal.find-requires
find-requires c = c.requires.good.1.1.table

pub add-requires-clause-absent : goal.add-requires-clause-absent
add-requires-clause-absent c = absent_of _ c.find.result c.find.ensures.is (sym c.is_some.ensures ∙ c.if-is_some.false)
