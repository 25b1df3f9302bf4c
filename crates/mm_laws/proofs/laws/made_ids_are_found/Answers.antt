use Rattle.mm_laws.proofs.Made.{made_are_found}
use Rattle.mm_laws.proofs.laws.made_ids_are_found.Goals as goal

pub returns : goal.returns
returns c = made_are_found
