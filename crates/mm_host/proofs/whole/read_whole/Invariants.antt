-- What stands before the index has been consumed.
use Rattle.std.proofs.Common.{◌≡◌, ◌≤◌, ◌-◌, length, take}
use Rattle.std.specs.Io.KnownBytes.{Consumes}
use Rattle.mm_host.proofs.whole.read_whole.Given as goal

abbrev pub invariant-loop-filled : goal.invariant-loop-filled
invariant-loop-filled g l = (length l.out ≡ length l.initial.out) × (l.filled ≤ length l.out) × Consumes (g.R.Read.remaining l.initial.from) (g.R.Read.remaining l.from) (take l.filled l.out)

abbrev pub decreases-loop-filled : goal.decreases-loop-filled
decreases-loop-filled g l = length l.initial.out - l.filled
