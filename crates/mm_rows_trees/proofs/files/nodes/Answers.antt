use Rattle.mm_rows_trees.proofs.FileLaws.{are_ready}
use Rattle.mm_rows_trees.proofs.files.nodes.Goals as goal

pub returns : goal.returns
returns c =
    are_ready c.namespace-2.new.draft.image c.counted.new.draft.image c.in-Some-Some.node c.in-Some-Some.owner c.in_ok-namespace-2.ensures c.in-Some-Some.ensures.of_records c.in-Some-Some.ensures'.of_records c.in_ok-counted.ensures
