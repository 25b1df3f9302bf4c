use Rattle.std.proofs.Common.{◌≡◌, ◌≤◌, ◌*◌, take}
use Rattle.mm_bucket.specs.Pairs.{size}
use Rattle.mm_bucket.proofs.bucket.Bucket.cut.Given as goal

abbrev pub invariant-loop-i : goal.invariant-loop-i
invariant-loop-i l = record {
  counted : l.size ≡ size (take l.i l.self.pairs);
  first : l.i ≤ 2 → l.size ≤ 1042 * l.i;
  below : l.size ≤ 5118;
}
