use Rattle.mm_btree.proofs.Thin.{beside, joined_after}
use Rattle.mm_btree.proofs.laws.thinned_then_joined.Goals as goal

pub returns-clause-beside : goal.returns-clause-beside
returns-clause-beside c = beside

pub returns-clause-joined : goal.returns-clause-joined
returns-clause-joined c = joined_after
