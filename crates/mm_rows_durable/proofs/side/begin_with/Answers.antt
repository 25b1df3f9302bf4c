use Rattle.std.proofs.Common.{◌≡◌, length, ap, arith, ◌∙◌, rules}
use Rattle.std.specs.Vec.{vec_len}
use Rattle.mm_rows_durable.specs.Toy.{toy}
use Rattle.mm_rows_durable.proofs.Seats.{stands_always, rooms_some, rooms_sum, room_is, one_pass, sat_first}
use Rattle.mm_rows_durable.proofs.side.begin_with.Goals as goal

pub start-requires-clause-stands : goal.start-requires-clause-stands
start-requires-clause-stands c = stands_always c.args.views.private

pub start-requires-clause-some_room : goal.start-requires-clause-some_room
start-requires-clause-some_room c = rooms_some c.args.rooms.items c.requires.rooms

pub start-requires-clause-all_rooms : goal.start-requires-clause-all_rooms
start-requires-clause-all_rooms c = rooms_sum c.args.rooms.items c.requires.rooms

pub start-requires-clause-untold : goal.start-requires-clause-untold
start-requires-clause-untold c = c.new.ensures

pub remove-pass-requires : goal.remove-pass-requires
remove-pass-requires c =
    let one = one_pass c.in_ok-held.held c.in_ok-held.passes.items c.args.rooms.items c.in_ok-held.ensures.passes c.in_ok-held.ensures.started.rooms_are c.requires.rooms in
    let len : vec_len c.in_ok-held.passes ≡ length c.in_ok-held.passes.items = search rules in
    omega (arith, one, len)

pub returns-clause-side : goal.returns-clause-side
returns-clause-side c =
    let v = c.in_ok-held.held in
    let ps = c.in_ok-held.passes.items in
    let started = c.in_ok-held.ensures.started in
    let all = c.in_ok-held.ensures.passes in
    let n = one_pass v ps c.args.rooms.items all started.rooms_are c.requires.rooms in
    record {
      sat = sat_first toy _ _ _ 1 1000 c.args.rooms.items v 0 c.remove-pass.result started (Rattle.mm_rows_durable.proofs.Seats.new_pass v ps c.remove-pass.result all (omega (arith, n)) c.remove-pass.ensures.value) (room_is c.args.rooms.items c.requires.rooms);
      most = started.most;
      items = omega (arith, ap length started.given);
    }

pub returns-clause-own : goal.returns-clause-own
returns-clause-own c = c.in_ok-held.ensures.feed.1

pub returns-clause-first : goal.returns-clause-first
returns-clause-first c = ap length (c.in_ok-held.ensures.feed.0 ∙ c.in_ok-held.ensures.started.given)
