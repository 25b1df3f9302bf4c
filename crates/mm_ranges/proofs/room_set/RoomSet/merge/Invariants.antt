use Rattle.std.proofs.Common.{◌≡◌, true}
use Rattle.mm_ranges.specs.Places.{is_normal, merged}
use Rattle.mm_ranges.specs.Room.{shown, has_room}
use Rattle.mm_ranges.proofs.room_set.RoomSet.merge.Given as goal

abbrev pub invariant-loop-file : goal.invariant-loop-file
invariant-loop-file l = record {
  can : (goal.iterator-loop-file).can_next l.file-iterator;
  finite : (goal.iterator-loop-file).is_finite l.file-iterator;
  same : merged (shown l.self) l.file-iterator ≡ merged (shown l.fn.self) l.others;
  room : has_room l.self l.file-iterator ≡ true;
  normal : is_normal l.file-iterator ≡ true;
}
