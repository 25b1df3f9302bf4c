use Rattle.mm_btree.proofs.Costs.{insert_within, remove_within}
use Rattle.mm_btree.proofs.laws.asks_within_demand.Goals as goal

pub returns-clause-insert : goal.returns-clause-insert
returns-clause-insert c = insert_within

pub returns-clause-remove : goal.returns-clause-remove
returns-clause-remove c = remove_within
