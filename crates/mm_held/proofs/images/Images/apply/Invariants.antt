use Rattle.std.proofs.Common.{◌+◌, ◌-◌, ◌≤◌, length}
use Rattle.mm_held.specs.Images.{IsApplied, last_up_to}
use Rattle.mm_held.proofs.images.Images.apply.Given as goal

abbrev pub invariant-loop-self : goal.invariant-loop-self
invariant-loop-self l = IsApplied l.initial.self l.self.applied l.self × (l.initial.self.applied ≤ l.self.applied) × (l.self.applied ≤ last_up_to l.initial.self l.upto)

abbrev pub decreases-loop-self : goal.decreases-loop-self
decreases-loop-self l = l.self.first + length l.self.given - l.self.applied
