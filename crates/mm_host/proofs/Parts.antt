-- A part from an index on, and what stands before it.
use Rattle.std.proofs.Common.{◌≡◌, ℕ, ◌+◌, ◌-◌, ◌≤◌, List, ◌++◌, arith, length, take, drop, sym, ap, ◌∙◌, append-nil, length-take-le, length-drop, take-append-drop, take_all, drop_of_length-le}
use Rattle.std.proofs.Math.Seq.{take-add, take-append-add}
use Rattle.std.proofs.lemmas.Slice.{take-put_mid, drop-put_mid}
use borrow.Rule.Slice.PartMut.{put_mid}

-- the first bytes from an index on lengthen what stands before it
pub take-take-rest : (at n : ℕ) (bytes : List ℕ) → take at bytes ++ take n (take (length bytes - at) (drop at bytes)) ≡ take (at + n) bytes
take-take-rest at n bytes =
    let rest : take (length bytes - at) (drop at bytes) ≡ drop at bytes = take_all _ _ (omega (arith, length-drop at bytes)) in
    ap (λ l. take at bytes ++ take n l) rest ∙ sym (take-add at n bytes)

-- where all from an index on was written anew, what stands before it and the new bytes are the whole
pub put_mid-rest : (at : ℕ) (old new : List ℕ) → at ≤ length old → length new ≡ length old - at → put_mid at (length old - at) old new ≡ take at old ++ new
put_mid-rest at old new within fits =
    let whole = put_mid at (length old - at) old new in
    let front = take-put_mid at (length old - at) old new (length old) (omega arith) within in
    let back = drop-put_mid at (length old - at) old new (length old) (omega arith) within fits ∙ drop_of_length-le old (omega arith) in
    sym (take-append-drop (length old) whole) ∙ ap (λ l. l ++ drop (length old) whole) front ∙ ap (λ l. (take at old ++ new) ++ l) back ∙ append-nil _

pub take-put_mid-rest : (at n : ℕ) (old new : List ℕ) → at ≤ length old → length new ≡ length old - at → take at old ++ take n new ≡ take (at + n) (put_mid at (length old - at) old new)
take-put_mid-rest at n old new within fits =
    let whole = put_mid-rest at old new within fits in
    let front : length (take at old) ≡ at = length-take-le at old within in
    sym (ap (take (at + n)) whole ∙ ap (λ k. take (k + n) (take at old ++ new)) (sym front) ∙ take-append-add (take at old) new n)
