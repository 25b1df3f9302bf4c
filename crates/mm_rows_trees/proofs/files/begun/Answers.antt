use Rattle.mm_rows_trees.proofs.FileLaws.{no_files}
use Rattle.mm_rows_trees.proofs.files.begun.Goals as goal

pub set_up_files-requires : goal.set_up_files-requires
set_up_files-requires c = no_files c.draft-draft.result c.new.result c.draft-draft.ensures c.new.ensures.views
