use Rattle.std.proofs.Common.{◌≡◌, true}
use Rattle.mm_ranges.specs.Places.{is_normal}
use Rattle.mm_ranges.specs.Room.{given_back}
use Rattle.mm_ranges.proofs.room_set.RoomSet.give_back.Given as goal

abbrev pub invariant-loop-file : goal.invariant-loop-file
invariant-loop-file l = record {
  can : (goal.iterator-loop-file).can_next l.file-iterator;
  finite : (goal.iterator-loop-file).is_finite l.file-iterator;
  same : given_back l.self l.file-iterator ≡ given_back l.fn.self l.others;
  normal : is_normal l.file-iterator ≡ true;
}
