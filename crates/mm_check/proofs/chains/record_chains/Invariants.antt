use Rattle.std.proofs.Common.{◌≡◌, map, take}
use Rattle.mm_check.specs.Phases.{reading_of, record_chain}
use Rattle.mm_check.proofs.chains.record_chains.Given as goal

abbrev pub invariant-loop-i : goal.invariant-loop-i
invariant-loop-i l = map reading_of l.chains.items ≡ map (record_chain l.views.private) (take l.i l.extents)
