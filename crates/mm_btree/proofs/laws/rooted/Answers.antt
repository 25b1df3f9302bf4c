use Rattle.mm_btree.proofs.Rooting.{rooted}
use Rattle.mm_btree.proofs.laws.rooted.Goals as goal

pub returns : goal.returns
returns c = rooted
