use Rattle.std.proofs.Common.{List, ℕ, Ok, Err, sym, ap, ◌∙◌, subst}
use Rattle.std.proofs.lemmas.List.{take_rest}
use Rattle.hex.specs.declared.error.FromHexError.TheVariants.{InvalidHexCharacter}
use Rattle.mm_notation.proofs.Digits.{Tells, tells, one_digit}
use Rattle.mm_notation.proofs.numbers.hex_pair.Goals as goal

pub returns-in_default-clause-gives : goal.returns-in_default-clause-gives
returns-in_default-clause-gives c =
    one_digit c.args.text.now c.in_ok-rest.field-0-0 c.in_ok-rest.rest.now c.in_default.len_below c.in_ok-rest.ensures.left c.in_ok-rest.ensures.gives

pub returns-in-Ok-clause-gives : goal.returns-in-Ok-clause-gives
returns-in-Ok-clause-gives c =
    let text : List ℕ = c.args.text.now in
    let here : Tells text (Ok c.in-Ok.byte) = subst (Tells text) (sym c.in-Ok.ensures) (tells text c.in-len2-up.len_at_least) in
    here ∙ ap (λ (r : List ℕ). Ok (c.in-Ok.byte, r)) (sym (take_rest text 2))

pub returns-in-Err-InvalidHexCharacter-clause-gives : goal.returns-in-Err-InvalidHexCharacter-clause-gives
returns-in-Err-InvalidHexCharacter-clause-gives c =
    let text : List ℕ = c.args.text.now in
    let e = c.in-Err-InvalidHexCharacter in
    let told = ap Err (sym e.field-0-is) ∙ e.ensures in
    let here : Tells text (Err (InvalidHexCharacter e.field-0-0 e.index)) = subst (Tells text) (sym told) (tells text c.in-len2-up.len_at_least) in
    rw e.index-is (here ∙ ap Err (sym (take_rest text e.index)))
