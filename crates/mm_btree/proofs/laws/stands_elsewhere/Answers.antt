use Rattle.mm_btree.proofs.Frames.{stands_same, stands_some}
use Rattle.mm_btree.proofs.laws.stands_elsewhere.Goals as goal

pub returns-clause-same : goal.returns-clause-same
returns-clause-same c = stands_same

pub returns-clause-some : goal.returns-clause-some
returns-clause-some c = stands_some
