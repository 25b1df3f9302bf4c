use Rattle.mm_model.proofs.Stays.{others_are_kept}
use Rattle.mm_model.proofs.laws.other_collections_stay.Goals as goal

pub returns : goal.returns
returns c = others_are_kept
