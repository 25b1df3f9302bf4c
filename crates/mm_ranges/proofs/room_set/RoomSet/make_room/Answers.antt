use Rattle.std.proofs.Common.{◌∙◌, List, ◌∷◌, ◌++◌, [], ap, sym, append_assoc}
use Rattle.mm_ranges.specs.Places.{Range, is_normal}
use Rattle.mm_ranges.proofs.Order.{normal_parts}
use Rattle.mm_ranges.proofs.Shown.{room-append}
use Rattle.mm_ranges.proofs.room_set.RoomSet.make_room.Goals as goal

pub loop-file-preserved : goal.loop-file-preserved
loop-file-preserved c =
    let r : Range = (c.in-Some.file, c.in-Some.at, c.in-Some.len) in
    let rest : List Range = c.next.«new».self in
    record {
      can = tt;
      finite = tt;
      shown_stays = c.in_ok-make_room_at.ensures.shown ∙ c.loop-file.invariant.shown_stays;
      room_stays = λ rs room. c.in_ok-make_room_at.ensures.room rs (c.loop-file.invariant.room_stays rs room);
      room = room-append c.make_room_at.«new».self c.loop-file.yielded r (c.in_ok-make_room_at.ensures.room c.loop-file.yielded c.loop-file.invariant.room) c.in_ok-make_room_at.ensures.touched;
      parts = c.loop-file.invariant.parts ∙ ap (λ (xs : List Range). c.loop-file.yielded ++ xs) c.in-Some.ensures.steps ∙ sym (append_assoc {A = Range} c.loop-file.yielded (r ∷ []) rest);
      normal = (normal_parts r rest (ap is_normal (sym c.in-Some.ensures.steps) ∙ c.loop-file.invariant.normal)).rest;
    }
