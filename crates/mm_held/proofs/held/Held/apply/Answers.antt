use Rattle.mm_held.proofs.Sound.{images_sound}
use Rattle.mm_held.proofs.held.Held.apply.Goals as goal

pub invariant_of-self : goal.invariant_of-self
invariant_of-self g c =
    let a = c.apply.ensures.applied in
    images_sound c.self.invariant c.apply.new.self a.first a.given a.most a.private a.made a.opened c.apply.ensures.imaged
