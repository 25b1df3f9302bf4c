use Rattle.std.proofs.Common.{◌≡◌}
use Rattle.std.specs.BTreeMap.{btree_map_len}
use Rattle.mm_ranges.specs.Places.{inserted}
use Rattle.mm_ranges.specs.Spans.{IsKept, Counts, Joins, spans_of, range_of}
use Rattle.mm_ranges.proofs.spans.swallow.Given as goal

abbrev pub invariant-loop-span : goal.invariant-loop-span
invariant-loop-span l = record {
  kept : IsKept l.starts.entries;
  counts : Counts l.tally l.starts.entries;
  joins : Joins l.whole l.starts.entries;
  same : inserted (range_of l.whole) (spans_of l.starts.entries) ≡ inserted (range_of l.fn.«new») (spans_of l.fn.starts.entries);
}

abbrev pub decreases-loop-span : goal.decreases-loop-span
decreases-loop-span l = btree_map_len l.starts
