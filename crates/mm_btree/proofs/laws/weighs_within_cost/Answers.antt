use Rattle.mm_btree.proofs.Costs.{insert_weighs_little, remove_weighs_little}
use Rattle.mm_btree.proofs.laws.weighs_within_cost.Goals as goal

pub returns-clause-insert : goal.returns-clause-insert
returns-clause-insert c = insert_weighs_little

pub returns-clause-remove : goal.returns-clause-remove
returns-clause-remove c = remove_weighs_little
