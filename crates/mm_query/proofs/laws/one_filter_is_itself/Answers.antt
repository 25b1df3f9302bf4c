use Rattle.mm_query.proofs.Ones.{and_one, or_one}
use Rattle.mm_query.proofs.laws.one_filter_is_itself.Goals as goal

pub returns-clause-and : goal.returns-clause-and
returns-clause-and c = and_one

pub returns-clause-or : goal.returns-clause-or
returns-clause-or c = or_one
