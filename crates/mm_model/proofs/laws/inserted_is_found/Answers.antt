use Rattle.mm_model.proofs.Found.{inserted_is_found}
use Rattle.mm_model.proofs.laws.inserted_is_found.Goals as goal

pub returns : goal.returns
returns c = inserted_is_found
