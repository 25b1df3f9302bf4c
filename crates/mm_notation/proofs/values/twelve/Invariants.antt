use Rattle.std.proofs.Common.{◌≡◌, ◌-◌, ◌≤◌, ◌++◌, length, take}
use Rattle.mm_notation.specs.Reading.{pairs_at}
use Rattle.mm_notation.proofs.Loops.{prepend}
use Rattle.mm_notation.proofs.values.twelve.Given as goal

abbrev pub invariant-loop-i : goal.invariant-loop-i
invariant-loop-i l = record {
  same : prepend (λ a b. a ++ b) (take l.i l.found) (pairs_at (12 - l.i) l.rest) ≡ pairs_at 12 l.text;
  left : length l.rest ≤ length l.text;
  sized : length l.found ≡ 12;
}
