use Rattle.std.proofs.Common.{take}
use Rattle.mm_held.specs.Seats.{AreSeats}
use Rattle.mm_held.proofs.seats.seats.Given as goal

abbrev pub invariant-loop-place : goal.invariant-loop-place
invariant-loop-place l = AreSeats 0 (take l.place l.rooms) l.givers.items l.passes.items
