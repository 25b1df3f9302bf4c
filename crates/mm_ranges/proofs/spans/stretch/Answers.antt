use Rattle.std.proofs.Common.{◌≡◌, ◌∙◌, ap, sym, subst, arith, ℕ, List, ◌+◌, ◌-◌, min}
use Rattle.std.specs.Prelude.{Some, None}
use Rattle.std.specs.BTreeMap.{insert_entry}
use Rattle.std.proofs.lemmas.Bool.{both_ways}
use Rattle.mm_ranges.specs.Spans.{Entry, entry_of, range_of, spans_of, count_of}
use Rattle.mm_ranges.proofs.Entries.{key_cmp}
use Rattle.mm_ranges.proofs.Bounds.{places_fit, ranges_fit}
use Rattle.mm_ranges.proofs.Kept.{untouched_by_none}
use Rattle.mm_ranges.proofs.Steps.{Stretched, stretched, counts_moved, begun}
use Rattle.mm_ranges.proofs.spans.stretch.Goals as goal

pub unreachable-requires : goal.unreachable-requires
unreachable-requires c =
    both_ways _ (untouched_by_none c.args.starts.now.entries c.args.whole.file c.args.whole.start c.args.whole.end c.requires.kept (sym c.in_default.ensures) c.requires.joins.order) c.requires.joins.touched

pub without-requires-clause-order : goal.without-requires-clause-order
without-requires-clause-order c =
    (stretched c.args.starts.now.entries c.args.whole c.in-Some.span c.requires.kept c.requires.joins (sym c.in-Some.ensures) (c.requires.last (entry_of c.in-Some.span) (sym c.in-Some.ensures))).order

pub without-requires-clause-places : goal.without-requires-clause-places
without-requires-clause-places c =
    let out = stretched c.args.starts.now.entries c.args.whole c.in-Some.span c.requires.kept c.requires.joins (sym c.in-Some.ensures) (c.requires.last (entry_of c.in-Some.span) (sym c.in-Some.ensures)) in
    omega (arith, out.places_there, c.requires.counts.places_counted)

pub without-requires-clause-ranges : goal.without-requires-clause-ranges
without-requires-clause-ranges c =
    let out = stretched c.args.starts.now.entries c.args.whole c.in-Some.span c.requires.kept c.requires.joins (sym c.in-Some.ensures) (c.requires.last (entry_of c.in-Some.span) (sym c.in-Some.ensures)) in
    omega (arith, out.ranges_there, c.requires.counts.ranges_counted)

pub with-requires-clause-places : goal.with-requires-clause-places
with-requires-clause-places c =
    let out = stretched c.args.starts.now.entries c.args.whole c.in-Some.span c.requires.kept c.requires.joins (sym c.in-Some.ensures) (c.requires.last (entry_of c.in-Some.span) (sym c.in-Some.ensures)) in
    let fits = places_fit (spans_of (insert_entry key_cmp c.args.starts.now.entries (c.in-Some.span.file, c.in-Some.span.end) (min c.args.whole.start c.in-Some.span.start))) out.kept.spaced in
    omega (arith, out.places_moved, fits, c.requires.counts.places_counted, c.without.ensures.places, c.min-start.ensures)

pub with-requires-clause-ranges : goal.with-requires-clause-ranges
with-requires-clause-ranges c =
    let out = stretched c.args.starts.now.entries c.args.whole c.in-Some.span c.requires.kept c.requires.joins (sym c.in-Some.ensures) (c.requires.last (entry_of c.in-Some.span) (sym c.in-Some.ensures)) in
    let fits = ranges_fit (spans_of (insert_entry key_cmp c.args.starts.now.entries (c.in-Some.span.file, c.in-Some.span.end) (min c.args.whole.start c.in-Some.span.start))) out.kept.spaced in
    let same : count_of (range_of (begun c.in-Some.span c.min-start.result)) ≡ count_of (range_of (begun c.in-Some.span (min c.args.whole.start c.in-Some.span.start))) = ap (λ n. count_of (range_of (begun c.in-Some.span n))) c.min-start.ensures in
    omega (arith, out.ranges_moved, fits, c.requires.counts.ranges_counted, c.without.ensures.ranges, same)

pub unreachable-requires-in-Err : goal.unreachable-requires-in-Err
unreachable-requires-in-Err c =
    let out = stretched c.args.starts.now.entries c.args.whole c.in-Some.span c.requires.kept c.requires.joins (sym c.in-Some.ensures) (c.requires.last (entry_of c.in-Some.span) (sym c.in-Some.ensures)) in
    some_none c.in-Some.span.start (sym out.there ∙ c.in-Err.ensures.absent)
  where
    some_none : (n : ℕ) → Some n ≡ None → ⊥
    some_none n h = cc

is_stretched : (c : goal.In-Ok) → Stretched c.args.starts.now.entries c.args.whole c.in-Some.span c.insert.«new».self.entries
is_stretched c =
    subst (λ (xs : List Entry). Stretched c.args.starts.now.entries c.args.whole c.in-Some.span xs)
    (sym (c.in-Ok.ensures.entries ∙ ap (insert_entry key_cmp c.args.starts.now.entries (c.in-Some.span.file, c.in-Some.span.end)) c.min-start.ensures))
    (stretched c.args.starts.now.entries c.args.whole c.in-Some.span c.requires.kept c.requires.joins (sym c.in-Some.ensures) (c.requires.last (entry_of c.in-Some.span) (sym c.in-Some.ensures)))

pub returns-clause-kept : goal.returns-clause-kept
returns-clause-kept c = (is_stretched c).kept

pub returns-clause-counts : goal.returns-clause-counts
returns-clause-counts c =
    counts_moved c.args.starts.now.entries c.insert.«new».self.entries c.args.tally.now c.without.result c.with.result c.args.whole c.in-Some.span (is_stretched c) c.requires.counts c.without.ensures.places c.without.ensures.ranges
    (c.with.ensures.places ∙ ap (λ n. c.without.result.places + (c.in-Some.span.end - n)) c.min-start.ensures)
    (c.with.ensures.ranges ∙ ap (λ n. c.without.result.ranges + count_of (range_of (begun c.in-Some.span n))) c.min-start.ensures)

pub returns-clause-spans : goal.returns-clause-spans
returns-clause-spans c = (is_stretched c).spans
