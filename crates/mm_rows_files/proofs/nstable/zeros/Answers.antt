use Rattle.mm_nstable.proofs.Zeros.{loaded_table}
use Rattle.mm_rows_files.proofs.nstable.zeros.Goals as goal

pub returns : goal.returns
returns c = loaded_table c.draft.result c.load.«new».self c.new-views.result c.args.len c.draft.ensures c.in_ok-load.ensures.ok
