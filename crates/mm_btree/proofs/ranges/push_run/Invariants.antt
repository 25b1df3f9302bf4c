use Rattle.std.proofs.Common.{◌≡◌, ◌≤◌, ◌-◌, ◌++◌, map, take, drop}
use Rattle.mm_btree.specs.Nodes.{item_of}
use Rattle.mm_btree.specs.Listed.{rec_of}
use Rattle.mm_btree.proofs.ranges.push_run.Given as goal

abbrev pub invariant-loop-place : goal.invariant-loop-place
invariant-loop-place l = record {
  begins : l.from ≤ l.place;
  grown : l.out.items ≡ l.fn.out.items ++ map rec_of (take (l.place - l.from) (drop l.from (map item_of l.bucket.pairs)));
}
