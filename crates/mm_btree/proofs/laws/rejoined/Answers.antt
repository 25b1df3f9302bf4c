use Rattle.mm_btree.proofs.Joined.{rejoined}
use Rattle.mm_btree.proofs.laws.rejoined.Goals as goal

pub returns : goal.returns
returns c = rejoined
