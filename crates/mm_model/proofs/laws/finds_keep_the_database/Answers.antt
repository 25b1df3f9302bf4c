use Rattle.mm_model.proofs.Stays.{finds_keep}
use Rattle.mm_model.proofs.laws.finds_keep_the_database.Goals as goal

pub returns : goal.returns
returns c = finds_keep
