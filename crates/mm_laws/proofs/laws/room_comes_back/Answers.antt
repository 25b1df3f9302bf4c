use Rattle.mm_laws.proofs.Nodes.{room_is_back}
use Rattle.mm_laws.proofs.laws.room_comes_back.Goals as goal

pub returns : goal.returns
returns c = room_is_back
