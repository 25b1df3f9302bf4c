use Rattle.std.proofs.Common.{◌+◌, ◌^◌, ◌≤◌, List, length, subst}
use Rattle.mm_btree.specs.Nodes.{Item}
use Rattle.mm_btree.specs.Order.{item_lt}
use Rattle.mm_btree.proofs.Costs.{tree_pairs}
use Rattle.mm_trees.specs.Buckets.{bucket_in}
use Rattle.mm_trees.specs.Roots.{root_in}
use Rattle.mm_trees.proofs.Finding.{rooted}
use Rattle.mm_trees.proofs.Levels.{low_trees}
use Rattle.mm_trees.proofs.laws.indexes_are_low.Goals as goal

pub returns-clause-levels : goal.returns-clause-levels
returns-clause-levels c = λ image node owner position spec pairs i.
    low_trees image i.free i.shape node i.holds (root_in image owner position) i.height i.s (rooted spec (bucket_in image node) (root_in image owner position) i.height i.s i.tree)

pub returns-clause-pairs : goal.returns-clause-pairs
returns-clause-pairs c = λ image node owner position spec pairs i.
    subst (λ (ps : List Item). 2 ^ i.height ≤ length ps + 1) i.listed (tree_pairs (item_lt spec) (bucket_in image node) (root_in image owner position) i.height i.s i.tree)
