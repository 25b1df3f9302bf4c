use Rattle.mm_laws.proofs.Conditions.{in_is_some_equality, exists_tells, absence_tells}
use Rattle.mm_laws.proofs.laws.operators_tell.Goals as goal

pub returns-clause-some : goal.returns-clause-some
returns-clause-some c = in_is_some_equality

pub returns-clause-there : goal.returns-clause-there
returns-clause-there c = exists_tells

pub returns-clause-absent : goal.returns-clause-absent
returns-clause-absent c = absence_tells
