use Rattle.std.proofs.Common.{length, vec_capacity, nat_lt}
use Rattle.std.proofs.lemmas.Bool.{and_from}
use Rattle.mm_durable.specs.Intake.{has_seats}
use Rattle.mm_durable.proofs.Sealed.{on_ok_both, room_holds}
use Rattle.mm_durable.proofs.durable.Durable.ready.Goals as goal

pub returns-clause-ready : goal.returns-clause-ready
returns-clause-ready g c =
    let log = c.ready.«new».self in
    on_ok_both c.ready-2.result (λ seats. and_from (has_seats c.ready-2.«new».self) (nat_lt (length log.sections.items) (vec_capacity log.sections)) seats (room_holds (length log.sections.items) (vec_capacity log.sections) c.in_ok-ready.ensures.room)) c.ready-2.ensures.ready
