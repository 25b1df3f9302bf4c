use Rattle.std.proofs.Common.{◌≡◌, ℕ, ◌<◌, ◌≤◌, true, length}
use Rattle.mm_bucket.specs.Marks.{mark}
use Rattle.mm_bucket.proofs.reading.take.Given as goal

abbrev pub invariant-loop-q : goal.invariant-loop-q
invariant-loop-q l = record {
  len : length l.taken ≡ length l.fn.taken;
  done : (p : ℕ) → l.from ≤ p → p < l.q → mark l.taken p ≡ true;
  before : (p : ℕ) → p < l.from → mark l.taken p ≡ mark l.fn.taken p;
  behind : (p : ℕ) → l.q ≤ p → mark l.taken p ≡ mark l.fn.taken p;
}
