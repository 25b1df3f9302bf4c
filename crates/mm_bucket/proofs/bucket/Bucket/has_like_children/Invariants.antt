use Rattle.std.proofs.Common.{ℕ, ◌<◌}
use Rattle.mm_bucket.specs.Pairs.{pair_at}
use Rattle.mm_bucket.specs.Rules.{Agrees}
use Rattle.mm_bucket.proofs.bucket.Bucket.has_like_children.Given as goal

abbrev pub invariant-loop-i : goal.invariant-loop-i
invariant-loop-i l = (j : ℕ) → j < l.i → Agrees l.leaf (pair_at l.self.pairs j).left
