use Rattle.mm_model.proofs.Histories.{folds_join}
use Rattle.mm_model.proofs.laws.folds_join.Goals as goal

pub returns : goal.returns
returns c = folds_join
