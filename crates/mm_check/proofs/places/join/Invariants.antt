use Rattle.std.proofs.Common.{◌≡◌, map, take}
use Rattle.mm_check.specs.Findings.{joined}
use Rattle.mm_check.proofs.places.join.Given as goal

abbrev pub invariant-loop-places : goal.invariant-loop-places
invariant-loop-places l = l.all.items ≡ joined (map (λ ps. ps.items) (take l.places-index l.lists))
