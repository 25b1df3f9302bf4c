use Rattle.mm_cases_check.proofs.CallLaws.{no_files}
use Rattle.mm_cases_check.proofs.calls.begun.Goals as goal

pub set_up_files-requires : goal.set_up_files-requires
set_up_files-requires c = no_files c.draft-draft.result c.new.result c.draft-draft.ensures c.new.ensures.views
