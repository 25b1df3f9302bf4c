use Rattle.mm_model.proofs.Stays.{refusals_keep}
use Rattle.mm_model.proofs.laws.refusals_keep_the_database.Goals as goal

pub returns : goal.returns
returns c = refusals_keep
