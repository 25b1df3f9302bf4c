use Rattle.std.proofs.Common.{subst}
use Rattle.mm_views.specs.State.{State, IsCovered, KeepsLimits}
use Rattle.mm_views.specs.Held.{state_of}
use Rattle.mm_views.proofs.Sound.{covered_sound}
use Rattle.mm_views.proofs.views.Views.remap.Goals as goal

pub returns-clause-coverage : goal.returns-clause-coverage
returns-clause-coverage c =
    subst IsCovered c.self.view_is (covered_sound (state_of c.self.inside.shared c.self.inside.private c.self.inside.made c.self.inside.opened c.self.inside.closed.items c.self.inside.prepared) c.self.invariant.sound)

pub returns-clause-limits : goal.returns-clause-limits
returns-clause-limits c = subst (λ (s : State). KeepsLimits s.private) c.self.view_is c.self.invariant.sound.limits
