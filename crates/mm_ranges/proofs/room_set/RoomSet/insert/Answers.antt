use Rattle.std.proofs.Common.{◌≡◌, ◌+◌, ◌-◌, ◌∙◌, ℕ, List, ap, sym, arith}
use Rattle.mm_ranges.specs.Places.{Range, inserted}
use Rattle.mm_ranges.specs.Spans.{spans_of}
use Rattle.mm_ranges.proofs.Shown.{put_in}
use Rattle.mm_ranges.proofs.room_set.RoomSet.insert.Goals as goal

-- the length of the span that is put in
same_len : (at len : ℕ) → at + len - at ≡ len
same_len at len = omega arith

pub returns-in-Inside-clause-ok : goal.returns-in-Inside-clause-ok
returns-in-Inside-clause-ok c =
    let spans : List Range = spans_of c.self.inside.starts.entries in
    (put_in spans c.args.self.now c.args.self.now c.args.file c.args.at c.args.len c.self.invariant.kept.spaced c.self.view_is
    (sym c.self.view_is ∙ sym c.in-Inside.ensures ∙ ap (λ n. inserted (c.args.file, c.args.at, n) spans) (same_len c.args.at c.args.len)) (omega arith) c.requires.some c.requires.fits).shown_more

pub returns-in_ok-put_alone-in-Alone-clause-ok : goal.returns-in_ok-put_alone-in-Alone-clause-ok
returns-in_ok-put_alone-in-Alone-clause-ok c =
    let spans : List Range = spans_of c.self.inside.starts.entries in
    (put_in spans c.args.self.now (spans_of c.put_alone.«new».starts.entries) c.args.file c.args.at c.args.len c.self.invariant.kept.spaced c.self.view_is
    (c.in_ok-put_alone-in-Alone.ensures.ok ∙ ap (λ n. inserted (c.args.file, c.args.at, n) spans) (same_len c.args.at c.args.len)) (omega arith) c.requires.some c.requires.fits).shown_more
