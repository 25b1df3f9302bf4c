use Rattle.mm_update.proofs.Whole.{keeps_others}
use Rattle.mm_update.proofs.laws.changes_keep_other_paths.Goals as goal

pub returns : goal.returns
returns c = keeps_others
