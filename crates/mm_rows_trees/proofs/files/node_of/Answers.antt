use Rattle.mm_rows_trees.proofs.FileLaws.{found_node}
use Rattle.mm_rows_trees.proofs.files.node_of.Goals as goal

pub find-requires : goal.find-requires
find-requires c = c.requires.bare.1.1.0.table

pub returns : goal.returns
returns c = found_node c.args.draft.now.image c.args.name.now c.requires.named c.find.result c.find.ensures.used c.find.ensures.name
