use Rattle.std.proofs.Common.{take}
use Rattle.mm_update.specs.Indexed.{Knows}
use Rattle.mm_update.proofs.index.index_of.Given as goal

abbrev pub invariant-loop-place : goal.invariant-loop-place
invariant-loop-place l = Knows l.index (take l.place l.entries)
