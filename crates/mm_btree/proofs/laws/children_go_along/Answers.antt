use Rattle.mm_btree.proofs.TwoLists.{children_inserted, children_removed, children_parted, children_put, items_put}
use Rattle.mm_btree.proofs.laws.children_go_along.Goals as goal

pub returns-clause-inserted : goal.returns-clause-inserted
returns-clause-inserted c = children_inserted

pub returns-clause-removed : goal.returns-clause-removed
returns-clause-removed c = children_removed

pub returns-clause-parted : goal.returns-clause-parted
returns-clause-parted c = children_parted

pub returns-clause-put : goal.returns-clause-put
returns-clause-put c = children_put

pub returns-clause-put_pairs : goal.returns-clause-put_pairs
returns-clause-put_pairs c = items_put
