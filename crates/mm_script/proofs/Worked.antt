-- The worked examples, computed.
use Rattle.std.proofs.Common.{◌≡◌, [], ◌∷◌, arith}
use Rattle.std.specs.Fmt.{decimal}
use Rattle.std.proofs.lemmas.Fmt.{decimal_digit}
use Rattle.mm_script.specs.Render.{render}
use Rattle.mm_script.specs.Examples.{WholeRun, StoppedRun}

one : decimal 1 ≡ 0x31 ∷ []
one = decimal_digit 1 (omega arith)

two : decimal 2 ≡ 0x32 ∷ []
two = decimal_digit 2 (omega arith)

three : decimal 3 ≡ 0x33 ∷ []
three = decimal_digit 3 (omega arith)

four : decimal 4 ≡ 0x34 ∷ []
four = decimal_digit 4 (omega arith)

five : decimal 5 ≡ 0x35 ∷ []
five = decimal_digit 5 (omega arith)

seven : decimal 7 ≡ 0x37 ∷ []
seven = decimal_digit 7 (omega arith)

nine : decimal 9 ≡ 0x39 ∷ []
nine = decimal_digit 9 (omega arith)

pub whole_run_text : WholeRun
unfolding render
whole_run_text = rw (one, two, three, four, seven, nine)

pub stopped_run_text : StoppedRun
unfolding render
stopped_run_text = rw (one, three, four, five)
