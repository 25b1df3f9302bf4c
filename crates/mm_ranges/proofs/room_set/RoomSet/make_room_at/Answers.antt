use Rattle.std.proofs.Common.{◌∙◌, List, ap, arith}
use Rattle.mm_ranges.specs.Places.{Range}
use Rattle.mm_ranges.specs.Room.{is_touched}
use Rattle.mm_ranges.specs.Spans.{spans_of}
use Rattle.mm_ranges.proofs.Shown.{touched_new, roomier, same_room}
use Rattle.mm_ranges.proofs.room_set.RoomSet.make_room_at.Goals as goal

pub returns-clause-touched : goal.returns-clause-touched
returns-clause-touched c =
    ap (λ (rs : List Range). is_touched rs c.args.file c.args.end) c.in_ok-hold.ensures.ok
    ∙ touched_new c.args.file c.args.end (spans_of c.self.inside.starts.entries) c.self.invariant.kept.spaced

pub returns-clause-shown : goal.returns-clause-shown
returns-clause-shown c =
    (roomier (spans_of c.self.inside.starts.entries) c.args.self.now (spans_of c.hold.«new».starts.entries) c.args.file c.args.end c.self.invariant.kept.spaced c.self.view_is c.in_ok-hold.ensures.ok (omega arith) (omega arith)).shown_stays

pub returns-clause-room : goal.returns-clause-room
returns-clause-room c =
    (roomier (spans_of c.self.inside.starts.entries) c.args.self.now (spans_of c.hold.«new».starts.entries) c.args.file c.args.end c.self.invariant.kept.spaced c.self.view_is c.in_ok-hold.ensures.ok (omega arith) (omega arith)).room_stays

pub returns-in_err-hold-clause-shown : goal.returns-in_err-hold-clause-shown
returns-in_err-hold-clause-shown c =
    (same_room (spans_of c.self.inside.starts.entries) c.args.self.now (spans_of c.hold.«new».starts.entries) c.self.view_is (ap spans_of c.in_err-hold.ensures.err)).shown_stays

pub returns-in_err-hold-clause-room : goal.returns-in_err-hold-clause-room
returns-in_err-hold-clause-room c =
    (same_room (spans_of c.self.inside.starts.entries) c.args.self.now (spans_of c.hold.«new».starts.entries) c.self.view_is (ap spans_of c.in_err-hold.ensures.err)).room_stays
