use Rattle.std.proofs.Common.{◌≡◌, ◌≤◌, ◌-◌, ◌++◌}
use Rattle.mm_btree.proofs.Ranged.{so_far}
use Rattle.mm_btree.proofs.ranges.+range_below.Given as goal

abbrev pub decreases-range_below : goal.decreases-range_below
decreases-range_below g l = l.height

abbrev pub invariant-loop-place : goal.invariant-loop-place
invariant-loop-place g l = record {
  begins : l.from ≤ l.place;
  grown : l.out.items ≡ l.fn.out.items ++ so_far l.spec l.bounds.low l.bounds.high (g.S.NodeStore.bucket_at l.store) (l.height - 1) l.bucket l.place;
}
