use Rattle.std.proofs.Common.{◌∙◌, List, sym, subst}
use Rattle.std.proofs.lemmas.Bool.{false≢true}
use Rattle.mm_ranges.specs.Places.{Range, Covers}
use Rattle.mm_ranges.specs.Spans.{entry_of, spans_of, span_of}
use Rattle.mm_ranges.proofs.Covering.{covers_by_first, covers_nothing}
use Rattle.mm_ranges.proofs.Entries.{all_end, spans_before}
use Rattle.mm_ranges.proofs.Kept.{cut_at}
use Rattle.mm_ranges.proofs.spans.are_covered.Goals as goal

pub has_range-requires : goal.has_range-requires
has_range-requires c = (cut_at c.args.starts.now.entries (entry_of c.in-Some.span) (c.args.file, c.args.at, c.args.len) c.requires.kept (sym c.in-Some.ensures)).forward

pub returns-in-Some : goal.returns-in-Some
returns-in-Some c =
    let cut = cut_at c.args.starts.now.entries (entry_of c.in-Some.span) (c.args.file, c.args.at, c.args.len) c.requires.kept (sym c.in-Some.ensures) in
    let by_first = covers_by_first cut.before cut.after (c.args.file, c.args.at, c.args.len) (span_of (entry_of c.in-Some.span)) cut.spaced c.requires.some cut.past cut.here in
    let P : List Range → Type 0 = λ rs. Covers rs c.args.file c.args.at c.args.len in (
      λ holds. subst P (sym cut.whole) (by_first.0 (sym c.has_range.ensures ∙ holds)),
      λ all. c.has_range.ensures ∙ by_first.1 (subst P cut.whole all),
    )

pub returns-in-None : goal.returns-in-None
returns-in-None c = (
  λ holds. absurd (false≢true holds),
  λ all. absurd (covers_nothing (spans_of c.args.starts.now.entries) (c.args.file, c.args.at, c.args.len) c.requires.some
      (spans_before c.args.starts.now.entries (c.args.file, c.args.at, c.args.len) c.requires.kept.forward (all_end c.args.file c.args.at c.args.starts.now.entries (sym c.in-None.ensures))) all),
)
