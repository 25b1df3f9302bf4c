use Rattle.mm_query.proofs.Marked.{wrong_comes_first, right_is_filter}
use Rattle.mm_query.proofs.laws.wrong_operators_come_first.Goals as goal

pub returns-clause-none : goal.returns-clause-none
returns-clause-none c = right_is_filter

pub returns-clause-first : goal.returns-clause-first
returns-clause-first c = wrong_comes_first
