use Rattle.mm_laws.proofs.Changing.{inc_puts, push_makes_array, unset_leaves}
use Rattle.mm_laws.proofs.laws.nothing_is_there.Goals as goal

pub returns-clause-inc : goal.returns-clause-inc
returns-clause-inc c = inc_puts

pub returns-clause-push : goal.returns-clause-push
returns-clause-push c = push_makes_array

pub returns-clause-unset : goal.returns-clause-unset
returns-clause-unset c = unset_leaves
