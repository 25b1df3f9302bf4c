use Rattle.mm_held.proofs.Sound.{ready_sound}
use Rattle.mm_held.proofs.held.Held.ready.Goals as goal

pub invariant_of-self : goal.invariant_of-self
invariant_of-self g c = ready_sound c.self.invariant c.ready.new.self c.ready.result c.ready.ensures.ok c.ready.ensures.err c.ready.ensures.imaged
