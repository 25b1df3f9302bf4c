use Rattle.std.proofs.Common.{◌≡◌, map, take}
use Rattle.mm_durable.specs.Intake.{empty_seat}
use Rattle.mm_durable.proofs.seats.take_seats.Given as goal

abbrev pub invariant-loop-name : goal.invariant-loop-name
invariant-loop-name l = l.seats.items ≡ map empty_seat (take l.name-index l.names)
