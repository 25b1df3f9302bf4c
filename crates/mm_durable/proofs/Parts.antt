-- The parts of seats, the last of which is put first.
use Rattle.std.proofs.Common.{◌≡◌, ℕ, zero, suc, ◌<◌, ◌≤◌, Bool, true, false, cond, List, [], ◌∷◌, ◌++◌, length, get_or, slice_set, Option, Some, None, refl, sym, ◌∙◌, ap, arith, append_assoc}
use Rattle.std.specs.Prelude.{reverse}
use Rattle.std.proofs.lemmas.List.{reverse-append}
use Rattle.mm_ranges.specs.declared.part.Closed.{Closed}
use Rattle.mm_ranges.specs.declared.part.Part.{Part}
use Rattle.mm_items.specs.Given.{Given, sealed_part, has_content, sealed_parts}
use Rattle.mm_durable.specs.Intake.{with_given, given_of, seated}
use Rattle.mm_durable.specs.declared.intake.Seat.{Seat}

given_push : (seats : List Seat) (s : Seat) → given_of (seats ++ s ∷ []) ≡ given_of seats ++ with_given s.name s.item []
given_push [] s = refl
given_push (r ∷ seats) s = by r.item (given_push seats s)
  where
    by : (o : Option Closed) → given_of (seats ++ s ∷ []) ≡ given_of seats ++ with_given s.name s.item [] → with_given r.name o (given_of (seats ++ s ∷ [])) ≡ with_given r.name o (given_of seats) ++ with_given s.name s.item []
    by None rest = rest
    by (Some x) rest = ap (λ (l : List Given). (r.name, x) ∷ l) rest

sealed_both : (a b : List Given) → sealed_parts (a ++ b) ≡ sealed_parts a ++ sealed_parts b
sealed_both [] b = refl
sealed_both (g ∷ a) b = by (has_content (sealed_part g)) (sealed_both a b)
  where
    by : (c : Bool) → sealed_parts (a ++ b) ≡ sealed_parts a ++ sealed_parts b → cond c (sealed_part g ∷ sealed_parts (a ++ b)) (sealed_parts (a ++ b)) ≡ cond c (sealed_part g ∷ sealed_parts a) (sealed_parts a) ++ sealed_parts b
    by true rest = ap (λ (l : List Part). sealed_part g ∷ l) rest
    by false rest = rest

pub part_count : (n : List ℕ) (o : Option Closed) → length (sealed_parts (with_given n o [])) ≤ 1
part_count n None = omega arith
part_count n (Some x) = by (has_content (sealed_part (n, x)))
  where
    by : (c : Bool) → length (cond c (sealed_part (n, x) ∷ []) []) ≤ 1
    by true = omega arith
    by false = omega arith

one_turned : (n : List ℕ) (o : Option Closed) → reverse (sealed_parts (with_given n o [])) ≡ sealed_parts (with_given n o [])
one_turned n None = refl
one_turned n (Some x) = by (has_content (sealed_part (n, x)))
  where
    by : (c : Bool) → reverse (cond c (sealed_part (n, x) ∷ []) []) ≡ cond c (sealed_part (n, x) ∷ []) []
    by true = refl
    by false = refl

pub put_next : (left rest : List Seat) (s : Seat) (old «new» all : List Part) → left ≡ rest ++ s ∷ [] → «new» ≡ old ++ sealed_parts (with_given s.name s.item []) → sealed_parts (given_of left) ++ reverse old ≡ all → sealed_parts (given_of rest) ++ reverse «new» ≡ all
put_next left rest s old «new» all e put so =
    let one = sealed_parts (with_given s.name s.item []) in
    let turned : reverse «new» ≡ one ++ reverse old = ap reverse put ∙ reverse-append old one ∙ ap (λ (l : List Part). l ++ reverse old) (one_turned s.name s.item) in
    let whole : sealed_parts (given_of left) ≡ sealed_parts (given_of rest) ++ one = ap (λ (l : List Seat). sealed_parts (given_of l)) e ∙ ap sealed_parts (given_push rest s) ∙ sealed_both (given_of rest) (with_given s.name s.item []) in
    ap (λ (l : List Part). sealed_parts (given_of rest) ++ l) turned ∙ sym (append_assoc (sealed_parts (given_of rest)) one (reverse old)) ∙ ap (λ (l : List Part). l ++ reverse old) (sym whole) ∙ so

-- ---- the seat of a database

pub same_number : (xs : List ℕ) (i d e : ℕ) → i < length xs → get_or xs i d ≡ get_or xs i e
same_number [] i d e lt = absurd (omega (arith, lt))
same_number (x ∷ xs) zero d e lt = refl
same_number (x ∷ xs) (suc i) d e lt = same_number xs i d e (omega (arith, lt))

pub put_in_seat : (seats : List Seat) (r : ℕ) (s : Seat) (item : Closed) → r < length seats → s ≡ get_or seats r s → slice_set seats r (let t : Seat = record { name = s.name; item = Some item } in t) ≡ seated r item seats
put_in_seat [] r s item lt at = absurd (omega (arith, lt))
put_in_seat (x ∷ seats) zero s item lt at = ap (λ (k : Seat). let t : Seat = record { name = k.name; item = Some item } in t ∷ seats) at
put_in_seat (x ∷ seats) (suc r) s item lt at = ap (λ (l : List Seat). x ∷ l) (put_in_seat seats r s item (omega (arith, lt)) at)
