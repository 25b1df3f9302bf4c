use Rattle.std.proofs.Common.{◌≡◌, ◌≤◌, length}
use Rattle.mm_notation.specs.Reading.{digits_at}
use Rattle.mm_notation.proofs.numbers.digits.Given as goal

abbrev pub invariant-digits : goal.invariant-digits
invariant-digits l = record {
  same : digits_at l.limit l.found l.rest ≡ digits_at l.limit l.number l.text;
  most : l.found ≤ l.limit;
  left : length l.rest ≤ length l.text;
}

abbrev pub decreases-digits : goal.decreases-digits
decreases-digits l = length l.rest
