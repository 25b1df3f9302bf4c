use Rattle.std.proofs.Common.{◌≡◌, ℕ, ◌<◌, ◌≤◌, ◌-◌, true, false, length, Some}
use Rattle.mm_bucket.specs.Pairs.{pair_at}
use Rattle.mm_btree.specs.Nodes.{item_of}
use Rattle.mm_btree.specs.Listed.{stays}
use Rattle.mm_btree.proofs.ranges.first_greater.Given as goal

abbrev pub invariant-loop-low : goal.invariant-loop-low
invariant-loop-low l = record {
  begins : l.from ≤ l.low;
  order : l.low ≤ l.high;
  inside : l.high ≤ length l.bucket.pairs;
  below : (j : ℕ) → l.from ≤ j → j < l.low → stays l.spec (Some l.key) (item_of (pair_at l.bucket.pairs j)) ≡ true;
  above : (j : ℕ) → l.high ≤ j → j < length l.bucket.pairs → stays l.spec (Some l.key) (item_of (pair_at l.bucket.pairs j)) ≡ false;
}

abbrev pub decreases-loop-low : goal.decreases-loop-low
decreases-loop-low l = l.high - l.low
