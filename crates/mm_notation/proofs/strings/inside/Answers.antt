use Rattle.std.proofs.Common.{◌≡◌, ℕ, List, [], ◌++◌, length, Some, Ok, append_assoc, refl, sym, ap, ◌∙◌, arith}
use Rattle.std.specs.Prelude.{option_map}
use Rattle.std.proofs.lemmas.Result.{err_from_is_err_and}
use Rattle.mm_notation.specs.Reading.{many_at, piece_item, piece_bytes}
use Rattle.mm_notation.proofs.Loops.{begins, goes_on, stops}
use Rattle.mm_notation.proofs.strings.inside.Goals as goal

pub pieces-init : goal.pieces-init
unfolding many_at
pieces-init c =
    let none : c.new-found.result.items ≡ [] = grind arith in
    (length c.args.text.now, omega arith, rw none (begins (λ (a b : List ℕ). a ++ b) [] (λ m. refl) _), omega arith)

pub returns-in_err-next-clause-gives : goal.returns-in_err-next-clause-gives
unfolding piece_item
returns-in_err-next-clause-gives c =
    let p = err_from_is_err_and c.from_residual.result c.from_residual.ensures.1 in
    let inv = c.pieces.invariant in
    rw (p.1, p.2) (stops [] (λ piece bytes. piece ++ bytes) (piece_item c.args.named) (λ (a b : List ℕ). a ++ b) inv.0 c.pieces.found.items c.pieces.rest.now c.in_err-next.field-0.0 _ refl inv.1 c.in_err-next.ensures.gives inv.2)

pub pieces-preserved : goal.pieces-preserved
pieces-preserved c =
    let inv = c.pieces.invariant in
    let e = c.in_ok-next in
    let read : (piece_item c.args.named) c.pieces.rest.now ≡ Ok (Some (piece_bytes c.in-Some.next), e.after.now) = e.ensures.gives ∙ ap (λ o. Ok (option_map piece_bytes o, e.after.now)) c.in-Some.is in
    let pushed : c.push_piece.new.found.items ≡ c.pieces.found.items ++ piece_bytes c.in-Some.next = c.in_ok-push_piece.ensures in
    let next = goes_on [] (λ piece bytes. piece ++ bytes) (piece_item c.args.named) (λ (a b : List ℕ). a ++ b) inv.0 c.pieces.found.items c.push_piece.new.found.items c.pieces.rest.now (piece_bytes c.in-Some.next) e.after.now _ inv.1 e.ensures.left read
    (λ m. rw pushed (sym (append_assoc c.pieces.found.items (piece_bytes c.in-Some.next) m))) inv.2 in
    (next.0, next.1, next.2, omega (arith, e.ensures.left))
