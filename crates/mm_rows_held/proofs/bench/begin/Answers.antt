use Rattle.std.proofs.Common.{◌≡◌, ◌<◌, length, arith, rules}
use Rattle.std.specs.Vec.{vec_len}
use Rattle.mm_rows_held.proofs.Benches.{stands_always, rooms_some, rooms_sum, rooms_two, two_passes, new_first, new_second, sat_first, fed_first}
use Rattle.mm_rows_held.specs.Toy.{toy}
use Rattle.mm_rows_held.proofs.bench.begin.Goals as goal

pub start-requires-clause-stands : goal.start-requires-clause-stands
start-requires-clause-stands c = stands_always c.args.views.private

pub start-requires-clause-some_room : goal.start-requires-clause-some_room
start-requires-clause-some_room c = rooms_some c.args.rooms.items c.requires.rooms

pub start-requires-clause-all_rooms : goal.start-requires-clause-all_rooms
start-requires-clause-all_rooms c = rooms_sum c.args.rooms.items c.requires.rooms

pub start-requires-clause-untold : goal.start-requires-clause-untold
start-requires-clause-untold c = c.new.ensures

pub remove-second-requires : goal.remove-second-requires
remove-second-requires c =
    let two = two_passes c.in_ok-held.held c.in_ok-held.passes.items c.args.rooms.items c.in_ok-held.ensures.passes c.in_ok-held.ensures.started.rooms_are c.requires.rooms in
    let len : vec_len c.in_ok-held.passes ≡ length c.in_ok-held.passes.items = search rules in
    omega (arith, two, len)

pub remove-first-requires : goal.remove-first-requires
remove-first-requires c =
    let two = two_passes c.in_ok-held.held c.in_ok-held.passes.items c.args.rooms.items c.in_ok-held.ensures.passes c.in_ok-held.ensures.started.rooms_are c.requires.rooms in
    let len : vec_len c.in_ok-held.passes ≡ length c.in_ok-held.passes.items = search rules in
    omega (arith, two, len, c.remove-second.ensures.len)

pub returns : goal.returns
returns c =
    let v = c.in_ok-held.held in
    let ps = c.in_ok-held.passes.items in
    let started = c.in_ok-held.ensures.started in
    let all = c.in_ok-held.ensures.passes in
    let n = two_passes v ps c.args.rooms.items all started.rooms_are c.requires.rooms in
    let two : 1 < length ps = omega (arith, n) in
    let rooms = rooms_two c.args.rooms.items c.requires.rooms in
    record {
      first = sat_first toy _ _ _ 7 1000 c.args.rooms.items v 0 c.remove-first.result started (new_first v ps c.remove-second.new.self.items c.remove-first.result all two c.remove-second.ensures.items c.remove-first.ensures.value) rooms.0;
      second = sat_first toy _ _ _ 7 1000 c.args.rooms.items v 1 c.remove-second.result started (new_second v ps c.remove-second.result all two c.remove-second.ensures.value) rooms.1;
      fed = fed_first toy _ _ _ 7 c.args.rooms.items v c.in_ok-held.feed started c.in_ok-held.ensures.feed.1;
    }
