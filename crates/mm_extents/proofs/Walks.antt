-- A chain is no longer than there are places, and what stands behind a place in its middle.
use Rattle.std.proofs.Common.{◌≡◌, ℕ, suc, ◌+◌, ◌*◌, ◌<◌, ◌≤◌, inl, inr, true, false, List, [], ◌∷◌, ◌++◌, length, map, refl, sym, ◌∙◌, ap, subst, arith}
use Rattle.std.specs.Prelude.{◌==◌}
use Rattle.std.specs.List.{IsDistinct, list_any, AllByRecursion}
use Rattle.std.proofs.lemmas.Bool.{cases_Bool, false≢true, eqb-true, ne_eqb}
use Rattle.std.proofs.lemmas.Map.Steps.{length-le_from_distinct_below}
use Rattle.mm_links.specs.Links.{Place, same, has, once, first_of, next_in}
use Rattle.mm_links.proofs.LinkLaws.{same_own, same_not, not_same, either, has_here, has_there, has_more, next_here, next_there, once_parts}
use Rattle.mm_extents.specs.Changes.{IsLow}

-- ---- a list of places is no longer than there are places

abbrev code : Place → ℕ
code p = p.0 * 67108864 + p.1

abbrev pub AllLow : List Place → Type 0
AllLow xs = (p : Place) → has xs p ≡ true → IsLow p

code_same : (p q : Place) → IsLow p → IsLow q → code p ≡ code q → p ≡ q
code_same p q a b e =
    let x = a.ofs in let y = b.ofs in
    let first : p.0 ≡ q.0 = omega (arith, x, y, e) in
    let second : p.1 ≡ q.1 = omega (arith, first, e) in
    λ i. (first i, second i)

all_off : (x : Place) (ys : List Place) → IsLow x → AllLow ys → has ys x ≡ false → AllByRecursion (λ y. (code x == y) ≡ false) (map code ys)
all_off x [] l a h = tt
all_off x (y ∷ ys) l a h = elim (cases_Bool (same y x)) [
  | inl z ↦ absurd (false≢true (sym h ∙ has_here y ys x z))
  | inr n ↦ (ne_eqb (code x) (code y) (λ e. not_same y x n (sym (code_same x y l (a y (has_here y ys y (same_own y))) e))), all_off x ys l (λ p i. a p (has_more y ys p i)) (sym (has_there y ys x n) ∙ h))
]

distinct : (xs : List Place) → AllLow xs → once xs ≡ true → IsDistinct (λ a b. a == b) (map code xs)
unfolding IsDistinct
distinct [] a o = tt
distinct (x ∷ xs) a o = let t = once_parts x xs o in (all_off x xs (a x (has_here x xs x (same_own x))) (λ p i. a p (has_more x xs p i)) t.0, distinct xs (λ p i. a p (has_more x xs p i)) t.1)

any_code : (xs : List Place) (q : ℕ) → AllLow xs → list_any (λ y. q == y) (map code xs) ≡ true → q < 536870912
any_code [] q a h = absurd (false≢true h)
any_code (x ∷ xs) q a h = elim (either (q == code x) (list_any (λ y. q == y) (map code xs)) h) [
  | inl y ↦ let l = a x (has_here x xs x (same_own x)) in let e = eqb-true q (code x) y in let f = l.file in let o = l.ofs in omega (arith, e, f, o)
  | inr r ↦ any_code xs q (λ p i. a p (has_more x xs p i)) r
]

length_code : (xs : List Place) → length (map code xs) ≡ length xs
length_code [] = refl
length_code (x ∷ xs) = ap (λ (n : ℕ). suc n) (length_code xs)

pub not_longer : (xs : List Place) → AllLow xs → once xs ≡ true → length xs ≤ 536870912
not_longer xs a o = subst (λ (n : ℕ). n ≤ 536870912) (length_code xs) (length-le_from_distinct_below (map code xs) 536870912 (distinct xs a o) (λ q h. any_code xs q a h))

-- ---- one step

pub has_middle : (before : List Place) (z : Place) (rest : List Place) → has (before ++ z ∷ rest) z ≡ true
has_middle [] z rest = has_here z rest z (same_own z)
has_middle (x ∷ xs) z rest = has_more x (xs ++ z ∷ rest) z (has_middle xs z rest)

pub next_middle : (before : List Place) (z : Place) (rest : List Place) → once (before ++ z ∷ rest) ≡ true → next_in (before ++ z ∷ rest) z ≡ first_of rest
next_middle [] z rest o = next_here z rest z (same_own z)
next_middle (x ∷ xs) z rest o = let t = once_parts x (xs ++ z ∷ rest) o in
    next_there x (xs ++ z ∷ rest) z (same_not x z (λ e. false≢true (sym t.0 ∙ ap (has (xs ++ z ∷ rest)) e ∙ has_middle xs z rest))) ∙ next_middle xs z rest t.1
