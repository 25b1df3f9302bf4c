-- A document whose length is put once its elements are there.
use Rattle.std.proofs.Common.{◌≡◌, ℕ, ◌+◌, ◌-◌, ◌<◌, ◌≤◌, List, [], ◌∷◌, ◌++◌, length, take, drop, refl, ap, ◌∙◌, append_assoc, arith}
use Rattle.std.specs.Int.{w32, to_le_bytes}
use Rattle.std.proofs.lemmas.List.{take_at, drop_at, length-append}
use Rattle.mm_bson.specs.Spelling.{framed}

pub framed_put : (old zeros inner all : List ℕ) (start : ℕ) → all ≡ ((old ++ zeros) ++ inner) ++ 0 ∷ [] → length zeros ≡ 4 → start ≡ length old
    → take start all ++ (to_le_bytes w32 (length all - start) ++ drop (start + 4) all) ≡ old ++ framed inner
unfolding framed
framed_put old zeros inner all start is four at =
    let parts : all ≡ old ++ (zeros ++ (inner ++ 0 ∷ [])) = is ∙ simp append_assoc in
    let seam : all ≡ (old ++ zeros) ++ (inner ++ 0 ∷ []) = is ∙ append_assoc (old ++ zeros) inner (0 ∷ []) in
    let head : take start all ≡ old = rw (parts, at) (take_at old (zeros ++ (inner ++ 0 ∷ [])) (length old) refl) in
    let behind : drop (start + 4) all ≡ inner ++ 0 ∷ [] = rw seam (drop_at (old ++ zeros) (inner ++ 0 ∷ []) (start + 4) (omega (arith, length-append old zeros))) in
    let counts : length all - start ≡ length inner + 5 = omega (arith, ap length is, length-append ((old ++ zeros) ++ inner) (0 ∷ []), length-append (old ++ zeros) inner, length-append old zeros) in
    rw (head, behind, counts) refl

regroup : (out name v rest : List ℕ) (k : ℕ) → ((out ++ (k ∷ name)) ++ v) ++ rest ≡ out ++ (k ∷ (name ++ (v ++ rest)))
regroup out name v rest k = simp append_assoc

-- one more element behind those that are put
pub spelled_on : (out next all name v rest : List ℕ) (k : ℕ) → next ≡ (out ++ (k ∷ name)) ++ v → out ++ (k ∷ (name ++ (v ++ rest))) ≡ all → next ++ rest ≡ all
spelled_on out next all name v rest k is told = rw is (regroup out name v rest k ∙ told)

pub value_short : (name v rest : List ℕ) (k n : ℕ) → length (k ∷ (name ++ (v ++ rest))) < n → length v < n
value_short name v rest k n lt = omega (arith, lt, length-append name (v ++ rest), length-append v rest)

pub rest_short : (name v rest : List ℕ) (k n : ℕ) → length (k ∷ (name ++ (v ++ rest))) < n → length rest < n
rest_short name v rest k n lt = omega (arith, lt, length-append name (v ++ rest), length-append v rest)

-- the buffer once a document's room, its elements and the last byte are put
pub ended : (old zeros inner a b all : List ℕ) → a ≡ old ++ zeros → b ≡ a ++ inner → all ≡ b ++ 0 ∷ [] → all ≡ ((old ++ zeros) ++ inner) ++ 0 ∷ []
ended old zeros inner a b all e f g = g ∙ ap (λ (x : List ℕ). x ++ 0 ∷ []) (f ∙ ap (λ (x : List ℕ). x ++ inner) e)

pub ended_short : (old zeros inner all : List ℕ) (start n : ℕ) → all ≡ ((old ++ zeros) ++ inner) ++ 0 ∷ [] → length zeros ≡ 4 → start ≡ length old → length inner + 5 < n → length all - start < n
ended_short old zeros inner all start n is four at lt =
    omega (arith, ap length is, length-append ((old ++ zeros) ++ inner) (0 ∷ []), length-append (old ++ zeros) inner, length-append old zeros, at, four, lt)

pub ended_room : (old zeros inner all : List ℕ) (start : ℕ) → all ≡ ((old ++ zeros) ++ inner) ++ 0 ∷ [] → length zeros ≡ 4 → start ≡ length old → start + 4 ≤ length all
ended_room old zeros inner all start is four at =
    omega (arith, ap length is, length-append ((old ++ zeros) ++ inner) (0 ∷ []), length-append (old ++ zeros) inner, length-append old zeros, at, four)
