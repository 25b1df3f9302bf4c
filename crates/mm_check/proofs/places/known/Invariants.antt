use Rattle.std.proofs.Common.{take}
use Rattle.mm_walk.specs.Walk.{Knows}
use Rattle.mm_check.proofs.places.known.Given as goal

abbrev pub invariant-loop-i : goal.invariant-loop-i
invariant-loop-i l = Knows l.set (take l.i l.places)
