use Rattle.mm_standing.proofs.OthersStay.{others_stay}
use Rattle.mm_standing.proofs.laws.others_stay.Goals as goal

pub returns : goal.returns
returns c = others_stay
