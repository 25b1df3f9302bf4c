use Rattle.std.proofs.Common.{◌≡◌, ◌++◌, List, true}
use Rattle.mm_ranges.specs.Places.{Range, is_normal}
use Rattle.mm_ranges.specs.Room.{shown, has_room}
use Rattle.mm_ranges.proofs.room_set.RoomSet.make_room.Given as goal

abbrev pub invariant-loop-file : goal.invariant-loop-file
invariant-loop-file l = record {
  can : (goal.iterator-loop-file).can_next l.file-iterator;
  finite : (goal.iterator-loop-file).is_finite l.file-iterator;
  shown_stays : shown l.self ≡ shown l.fn.self;
  room_stays : (rs : List Range) → has_room l.fn.self rs ≡ true → has_room l.self rs ≡ true;
  room : has_room l.self l.yielded ≡ true;
  parts : l.others ≡ l.yielded ++ l.file-iterator;
  normal : is_normal l.file-iterator ≡ true;
}
