use Rattle.mm_model.proofs.Histories.{folds_pass_prefixes}
use Rattle.mm_model.proofs.laws.folds_pass_prefixes.Goals as goal

pub returns : goal.returns
returns c = folds_pass_prefixes
