use Rattle.mm_btree.proofs.Large.{large}
use Rattle.mm_btree.proofs.laws.high_trees_are_large.Goals as goal

pub returns : goal.returns
returns c = large
