use Rattle.std.proofs.Common.{[], ◌∷◌, length, ap, arith}
use Rattle.std.proofs.lemmas.List.{length-append}
use Rattle.mm_items.specs.Given.{sealed_parts}
use Rattle.mm_durable.specs.Intake.{with_given}
use Rattle.mm_durable.proofs.Parts.{put_next, part_count}
use Rattle.mm_durable.proofs.seats.put_parts.Goals as goal

pub loop-seat-preserved : goal.loop-seat-preserved
loop-seat-preserved c = record {
  parts = put_next c.loop-seat.seats.items c.pop.«new».self.items c.in-Some.seat c.loop-seat.parts.items c.put_part.«new».parts.items _ c.in-Some.ensures.items c.put_part.ensures.parts c.loop-seat.invariant.parts;
  room = omega (
    arith,
    ap length c.put_part.ensures.parts,
    length-append c.loop-seat.parts.items (sealed_parts (with_given c.in-Some.seat.name c.in-Some.seat.item [])),
    part_count c.in-Some.seat.name c.in-Some.seat.item,
    ap length c.in-Some.ensures.items,
    length-append c.pop.«new».self.items (c.in-Some.seat ∷ []),
    c.loop-seat.invariant.room,
    c.put_part.ensures.room,
  );
}
