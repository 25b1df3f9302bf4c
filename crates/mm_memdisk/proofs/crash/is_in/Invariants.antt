use Rattle.std.proofs.Common.{◌≡◌, drop}
use Rattle.mm_outside.specs.Told.{is_in}
use Rattle.mm_memdisk.proofs.crash.is_in.Given as goal

abbrev pub invariant-loop-range : goal.invariant-loop-range
invariant-loop-range l = is_in l.at (drop l.range-index l.ranges) ≡ is_in l.at l.ranges
