use Rattle.mm_model.proofs.Nodes.{room_stays}
use Rattle.mm_model.proofs.laws.room_stays.Goals as goal

pub returns : goal.returns
returns c = room_stays
