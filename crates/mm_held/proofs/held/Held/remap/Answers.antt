use Rattle.std.proofs.Common.{refl}
use Rattle.mm_held.proofs.Sound.{same_sound}
use Rattle.mm_held.proofs.held.Held.remap.Goals as goal

pub invariant_of-self : goal.invariant_of-self
invariant_of-self g c = same_sound c.self.invariant c.remap.ensures refl
