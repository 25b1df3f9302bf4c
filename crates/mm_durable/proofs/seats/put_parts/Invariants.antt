use Rattle.std.proofs.Common.{◌≡◌, ◌+◌, ◌≤◌, ◌++◌, length, vec_len, vec_capacity}
use Rattle.std.specs.Prelude.{reverse}
use Rattle.mm_items.specs.Given.{sealed_parts}
use Rattle.mm_durable.specs.Intake.{given_of}
use Rattle.mm_durable.proofs.seats.put_parts.Given as goal

abbrev pub invariant-loop-seat : goal.invariant-loop-seat
invariant-loop-seat l = record {
  parts : sealed_parts (given_of l.seats.items) ++ reverse l.parts.items ≡ sealed_parts (given_of l.fn.seats.items);
  room : length l.parts.items + length l.seats.items ≤ vec_capacity l.parts;
}

abbrev pub decreases-loop-seat : goal.decreases-loop-seat
decreases-loop-seat l = vec_len l.seats
