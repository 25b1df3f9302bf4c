use Rattle.mm_update.proofs.Whole.{keeps_the_id}
use Rattle.mm_update.proofs.laws.changes_keep_the_id.Goals as goal

pub returns : goal.returns
returns c = keeps_the_id
