use Rattle.std.proofs.Common.{◌≡◌, ℕ, ◌<◌, ◌≤◌, ◌-◌, length}
use Rattle.std.specs.declared.cmp.Ordering.TheVariants.{Less, Greater}
use Rattle.mm_bucket.specs.Pairs.{pair_at}
use Rattle.mm_bucket.specs.Order.{compare_pair}
use Rattle.mm_bucket.proofs.bucket.Bucket.find_in_place.Given as goal

abbrev pub invariant-loop-low : goal.invariant-loop-low
invariant-loop-low l = record {
  order : l.low ≤ l.high;
  inside : l.high ≤ length l.self.pairs;
  below : (j : ℕ) → j < l.low → compare_pair l.spec (pair_at l.self.pairs j) l.key l.rec ≡ Less;
  above : (j : ℕ) → l.high ≤ j → j < length l.self.pairs → compare_pair l.spec (pair_at l.self.pairs j) l.key l.rec ≡ Greater;
}

abbrev pub decreases-loop-low : goal.decreases-loop-low
decreases-loop-low l = l.high - l.low
