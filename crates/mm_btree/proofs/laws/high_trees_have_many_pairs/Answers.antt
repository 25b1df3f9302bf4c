use Rattle.mm_btree.proofs.Costs.{tree_pairs}
use Rattle.mm_btree.proofs.laws.high_trees_have_many_pairs.Goals as goal

pub returns : goal.returns
returns c = tree_pairs
