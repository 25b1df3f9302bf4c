use Rattle.std.proofs.Common.{◌≡◌, ◌^◌, ◌<◌, ◌≤◌, ◌-◌, List, subst, sym, arith}
use Rattle.std.specs.BTreeMap.{insert_entry}
use Rattle.mm_ranges.specs.Spans.{Entry, IsKept, IsAlone, spans_of}
use Rattle.mm_ranges.specs.declared.spans.Span.{Span}
use Rattle.mm_ranges.proofs.Bounds.{places_fit, ranges_fit}
use Rattle.mm_ranges.proofs.Entries.{key_cmp}
use Rattle.mm_ranges.proofs.Order.{span_from}
use Rattle.mm_ranges.proofs.Steps.{Entered, entered}
use Rattle.mm_ranges.proofs.spans.put_alone.Goals as goal

is_entered : (es fs : List Entry) (w : Span) → IsKept es → IsAlone w es → w.start ≤ w.end → w.file < 2 ^ 32 → w.end < 2 ^ 32 → fs ≡ insert_entry key_cmp es (w.file, w.end) w.start → Entered es w fs
is_entered es fs w kept alone order file end is = subst (λ (xs : List Entry). Entered es w xs) (sym is) (entered es w (span_from w.file w.start (w.end - w.start) file (omega (arith, order, end))) order kept alone)

pub with-requires-clause-places : goal.with-requires-clause-places
with-requires-clause-places c =
    let out = is_entered c.args.starts.now.entries c.insert.«new».self.entries c.args.«new» c.requires.kept c.requires.alone c.requires.order (omega arith) (omega arith) c.in_ok-insert.ensures.entries in
    let fits = places_fit (spans_of c.insert.«new».self.entries) out.kept.spaced in
    omega (arith, fits, out.places_more, c.requires.counts.places_counted)

pub with-requires-clause-ranges : goal.with-requires-clause-ranges
with-requires-clause-ranges c =
    let out = is_entered c.args.starts.now.entries c.insert.«new».self.entries c.args.«new» c.requires.kept c.requires.alone c.requires.order (omega arith) (omega arith) c.in_ok-insert.ensures.entries in
    let fits = ranges_fit (spans_of c.insert.«new».self.entries) out.kept.spaced in
    omega (arith, fits, out.ranges_more, c.requires.counts.ranges_counted)

out_of : (c : goal.After-with) → Entered c.args.starts.now.entries c.args.«new» c.insert.«new».self.entries
out_of c = is_entered c.args.starts.now.entries c.insert.«new».self.entries c.args.«new» c.requires.kept c.requires.alone c.requires.order (omega arith) (omega arith) c.in_ok-insert.ensures.entries

pub returns-clause-ok : goal.returns-clause-ok
returns-clause-ok c = (out_of c).spans

pub returns-clause-kept : goal.returns-clause-kept
returns-clause-kept c = (out_of c).kept

pub returns-clause-counts : goal.returns-clause-counts
returns-clause-counts c = record {
  places_counted = omega (arith, c.with.ensures.places, (out_of c).places_more, c.requires.counts.places_counted);
  ranges_counted = omega (arith, c.with.ensures.ranges, (out_of c).ranges_more, c.requires.counts.ranges_counted);
}
