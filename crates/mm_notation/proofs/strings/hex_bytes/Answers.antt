use Rattle.std.proofs.Common.{◌≡◌, ℕ, List, [], ◌∷◌, ◌++◌, length, Some, Ok, append_assoc, refl, sym, ap, ◌∙◌, arith}
use Rattle.std.proofs.lemmas.Result.{err_from_is_err_and}
use Rattle.mm_notation.specs.Reading.{many_at, hex_item}
use Rattle.mm_notation.proofs.Loops.{begins, goes_on, stops}
use Rattle.mm_notation.proofs.strings.hex_bytes.Goals as goal

pub bytes-init : goal.bytes-init
unfolding many_at
bytes-init c =
    let none : c.new-found.result.items ≡ [] = grind arith in
    (length c.args.text.now, omega arith, rw none (begins (λ (a b : List ℕ). a ++ b) [] (λ m. refl) _), omega arith)

pub returns-in_err-byte-clause-gives : goal.returns-in_err-byte-clause-gives
unfolding hex_item
returns-in_err-byte-clause-gives c =
    let p = err_from_is_err_and c.from_residual.result c.from_residual.ensures.1 in
    let inv = c.bytes.invariant in
    rw (p.1, p.2) (stops [] (λ b bytes. b ∷ bytes) hex_item (λ (a b : List ℕ). a ++ b) inv.0 c.bytes.found.items c.bytes.rest.now c.in_err-byte.field-0.0 _ refl inv.1 c.in_err-byte.ensures.gives inv.2)

pub bytes-preserved : goal.bytes-preserved
bytes-preserved c =
    let inv = c.bytes.invariant in
    let e = c.in_ok-byte in
    let read : hex_item c.bytes.rest.now ≡ Ok (Some c.in-Some.byte, e.after.now) = e.ensures.gives ∙ ap (λ o. Ok (o, e.after.now)) c.in-Some.is in
    let pushed : c.push.new.self.items ≡ c.bytes.found.items ++ c.in-Some.byte ∷ [] = c.in_ok-push.ensures.items in
    let next = goes_on [] (λ b bytes. b ∷ bytes) hex_item (λ (a b : List ℕ). a ++ b) inv.0 c.bytes.found.items c.push.new.self.items c.bytes.rest.now c.in-Some.byte e.after.now _ inv.1 e.ensures.left read
    (λ m. rw pushed (sym (append_assoc c.bytes.found.items (c.in-Some.byte ∷ []) m))) inv.2 in
    (next.0, next.1, next.2, omega (arith, e.ensures.left))
