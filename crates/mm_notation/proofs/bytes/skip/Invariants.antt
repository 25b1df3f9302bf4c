use Rattle.std.proofs.Common.{◌≡◌, ◌≤◌, length}
use Rattle.mm_notation.specs.Reading.{skip}
use Rattle.mm_notation.proofs.bytes.skip.Given as goal

abbrev pub invariant-spaces : goal.invariant-spaces
invariant-spaces l = record {
  same : skip l.rest ≡ skip l.text;
  left : length l.rest ≤ length l.text;
}

abbrev pub decreases-spaces : goal.decreases-spaces
decreases-spaces l = length l.rest
