use Rattle.std.proofs.Common.{ℕ, ◌<◌, ◌≤◌, ◌-◌, length}
use Rattle.mm_bucket.specs.Pairs.{pair_at}
use Rattle.mm_btree.specs.Nodes.{item_of}
use Rattle.mm_btree.specs.Order.{IsBelow, IsNotBelow}
use Rattle.mm_btree.proofs.search.first_not_less.Given as goal

abbrev pub invariant-loop-low : goal.invariant-loop-low
invariant-loop-low l = record {
  order : l.low ≤ l.high;
  inside : l.high ≤ length l.bucket.pairs;
  below : (j : ℕ) → j < l.low → IsBelow l.spec l.key (item_of (pair_at l.bucket.pairs j));
  above : (j : ℕ) → l.high ≤ j → j < length l.bucket.pairs → IsNotBelow l.spec l.key (item_of (pair_at l.bucket.pairs j));
}

abbrev pub decreases-loop-low : goal.decreases-loop-low
decreases-loop-low l = l.high - l.low
