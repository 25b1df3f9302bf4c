use Rattle.std.proofs.Common.{◌≡◌, ℕ, ◌<◌, ◌≤◌, false}
use Rattle.mm_bucket.specs.Marks.{mark}
use Rattle.mm_bucket.proofs.reading.is_free.Given as goal

abbrev pub invariant-loop-q : goal.invariant-loop-q
invariant-loop-q l = (p : ℕ) → l.from ≤ p → p < l.q → mark l.taken p ≡ false
