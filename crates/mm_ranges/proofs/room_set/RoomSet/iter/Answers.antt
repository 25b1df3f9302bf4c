use Rattle.std.proofs.Common.{◌≡◌, List, true, subst}
use Rattle.mm_ranges.specs.Places.{Range, is_normal}
use Rattle.mm_ranges.specs.Room.{shown}
use Rattle.mm_ranges.specs.Spans.{spans_of}
use Rattle.mm_ranges.proofs.Shown.{is_normal-shown}
use Rattle.mm_ranges.proofs.room_set.RoomSet.iter.Goals as goal

pub returns-clause-normal : goal.returns-clause-normal
returns-clause-normal c =
    subst (λ (rs : List Range). is_normal (shown rs) ≡ true) c.self.view_is (is_normal-shown (spans_of c.self.inside.starts.entries) c.self.invariant.kept.spaced)
