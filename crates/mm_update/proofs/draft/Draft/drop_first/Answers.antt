use Rattle.mm_update.specs.Drafted.{drafted}
use Rattle.mm_update.proofs.Fields.{AreNames-without}
use Rattle.mm_update.proofs.Places.{index_kept}
use Rattle.mm_update.proofs.draft.Draft.drop_first.Goals as goal

pub invariant_of-self : goal.invariant_of-self
invariant_of-self c = (rw c.drop_in.ensures.entries (AreNames-without c.args.name.now (drafted c.self.inside.entries.items) c.self.invariant.0), index_kept c.self.inside.index _ _ c.drop_in.ensures.names c.self.invariant.1)
