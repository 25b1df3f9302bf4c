use Rattle.mm_btree.proofs.Segments.{settled}
use Rattle.mm_btree.proofs.laws.settled.Goals as goal

pub returns : goal.returns
returns c = settled
