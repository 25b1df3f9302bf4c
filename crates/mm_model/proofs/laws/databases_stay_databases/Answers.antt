use Rattle.mm_model.proofs.Kept.{databases_stay}
use Rattle.mm_model.proofs.laws.databases_stay_databases.Goals as goal

pub returns : goal.returns
returns c = databases_stay
