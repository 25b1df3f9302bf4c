use Rattle.std.proofs.Common.{◌≡◌, ◌+◌, ◌-◌, ◌∙◌, ap, arith}
use Rattle.mm_ranges.specs.Places.{inserted}
use Rattle.mm_ranges.specs.Spans.{spans_of}
use Rattle.mm_ranges.proofs.Shown.{PutIn, put_in}
use Rattle.mm_ranges.proofs.room_set.RoomSet.put.Goals as goal

is_put : (c : goal.After-put) → PutIn (c.args.file, c.args.at, c.args.len) c.args.self.now (spans_of c.put.«new».starts.entries)
is_put c =
    let len : c.args.at + c.args.len - c.args.at ≡ c.args.len = omega arith in
    put_in (spans_of c.self.inside.starts.entries) c.args.self.now (spans_of c.put.«new».starts.entries) c.args.file c.args.at c.args.len c.self.invariant.kept.spaced c.self.view_is
    (c.put.ensures.spans ∙ ap (λ n. inserted (c.args.file, c.args.at, n) (spans_of c.self.inside.starts.entries)) len) (omega arith) c.requires.some c.requires.fits

pub returns-clause-shown : goal.returns-clause-shown
returns-clause-shown c = (is_put c).shown_more

pub returns-clause-room : goal.returns-clause-room
returns-clause-room c = (is_put c).room_stays
