use Rattle.std.proofs.Common.{subst}
use Rattle.mm_bson.specs.Built.{IsBuilt}
use Rattle.mm_bson.proofs.Walks.{spells_built}
use Rattle.mm_bson.proofs.place.DocRef.bytes.Goals as goal

pub returns-clause-built : goal.returns-clause-built
returns-clause-built c = subst IsBuilt c.self.view_is (spells_built _ _ c.self.invariant)
