use Rattle.std.proofs.Common.{◌≡◌, length}
use Rattle.mm_ranges.specs.Room.{shown}
use Rattle.mm_ranges.specs.Spans.{spans_of}
use Rattle.mm_ranges.proofs.range_iter.RangeIterIterator.next.Given as goal

abbrev pub invariant-loop-file : goal.invariant-loop-file
invariant-loop-file l = shown (spans_of l.self-inside.entries) ≡ l.fn.self

abbrev pub decreases-loop-file : goal.decreases-loop-file
decreases-loop-file l = length l.self-inside.entries
