-- Blocks by their places are one list.
use Rattle.std.proofs.Common.{◌≡◌, ℕ, zero, suc, ◌+◌, ◌<◌, ◌≤◌, ◌⊎◌, inl, inr, true, false, List, [], ◌∷◌, length, get_or, refl, sym, ◌∙◌, ap, subst, arith}
use Rattle.std.specs.Prelude.{◌==◌, Contains}
use Rattle.std.specs.List.{IsDistinct, AllByRecursion}
use Rattle.std.specs.List.Sorted.{IsPermutation, IsNonDecreasingBy}
use Rattle.std.proofs.lemmas.Bool.{ne_eqb, eqb-true, cases_Bool, false≢true}
use Rattle.std.proofs.lemmas.Bool.Decides.{nat_tests}
use Rattle.std.proofs.lemmas.Map.Keys.{IsDistinct-IsPermutation}
use Rattle.std.proofs.lemmas.List.Sorted.{Contains-permutation, IsPermutation-sym, IsPermutation-trans}
use Rattle.mm_walk.specs.Tiles.{Block, In, IsRising, first_gap}

pub same_rising : (xs ys : List Block) → IsRising xs → IsRising ys → ((c : Block) → In c xs → In c ys) → ((c : Block) → In c ys → In c xs) → xs ≡ ys
same_rising [] [] a b f g = refl
same_rising [] (y ∷ ys) a b f g = absurd (g y (inl refl))
same_rising (x ∷ xs) [] a b f g = absurd (f x (inl refl))
same_rising (x ∷ xs) (y ∷ ys) a b f g =
    let e : x ≡ y = head (f x (inl refl)) (g y (inl refl)) in
    let t : xs ≡ ys = same_rising xs ys a.1 b.1 (λ c i. rest_f c i e (f c (inr i))) (λ c i. rest_g c i e (g c (inr i))) in
    λ i. e i ∷ t i
  where
    head : In x (y ∷ ys) → In y (x ∷ xs) → x ≡ y
    head (inl e) j = e
    head (inr i) (inl e) = sym e
    head (inr i) (inr j) = absurd (let p = b.0 x i in let q = a.0 y j in omega (arith, p, q))

    rest_f : (c : Block) → In c xs → x ≡ y → In c (y ∷ ys) → In c ys
    rest_f c i e (inl h) = absurd (let p = a.0 c i in let q = ap (λ (d : Block). d.0) (h ∙ sym e) in omega (arith, p, q))
    rest_f c i e (inr h) = h

    rest_g : (c : Block) → In c ys → x ≡ y → In c (x ∷ xs) → In c xs
    rest_g c i e (inl h) = absurd (let p = b.0 c i in let q = ap (λ (d : Block). d.0) (h ∙ e) in omega (arith, p, q))
    rest_g c i e (inr h) = h

pub in_of : (xs : List Block) (k : ℕ) (d : Block) → k < length xs → In (get_or xs k d) xs
in_of [] k d lt = absurd (omega (arith, lt))
in_of (x ∷ xs) zero d lt = inl refl
in_of (x ∷ xs) (suc k) d lt = inr (in_of xs k d (omega (arith, lt)))

pub place_in : (xs : List Block) (c : Block) → In c xs → (k : ℕ) × (k < length xs) × ((d : Block) → get_or xs k d ≡ c)
place_in [] c i = absurd i
place_in (x ∷ xs) c (inl e) = (0, omega arith, λ d. sym e)
place_in (x ∷ xs) c (inr i) = let t = place_in xs c i in let lt = t.1 in (suc t.0, omega (arith, lt), t.2)

all_of : (P : Block → Type 0) (xs : List Block) → ((c : Block) → In c xs → P c) → AllByRecursion P xs
all_of P [] f = tt
all_of P (x ∷ xs) f = (f x (inl refl), all_of P xs (λ c i. f c (inr i)))

of_all : (P : Block → Type 0) (xs : List Block) → AllByRecursion P xs → (c : Block) → In c xs → P c
of_all P [] a c i = absurd i
of_all P (x ∷ xs) a c (inl e) = subst P (sym e) a.0
of_all P (x ∷ xs) a c (inr i) = of_all P xs a.1 c i

distinct_of_rising : (xs : List Block) → IsRising xs → IsDistinct (λ (a b : Block). a.0 == b.0) xs
unfolding IsDistinct
distinct_of_rising [] r = tt
distinct_of_rising (x ∷ xs) r = (all_of (λ c. (x.0 == c.0) ≡ false) xs (λ c i. let lt = r.0 c i in ne_eqb x.0 c.0 (λ e. omega (arith, lt, e))), distinct_of_rising xs r.1)

same_test : (m n : ℕ) → (m == n) ≡ (n == m)
same_test m n = grind (arith, nat_tests)

differ : (m n : ℕ) → (m == n) ≡ false → m ≤ n → m < n
differ m n e le = grind (arith, nat_tests)

rising_of_sorted : (xs : List Block) → IsNonDecreasingBy (λ (b : Block). b.0) xs → IsDistinct (λ (a b : Block). a.0 == b.0) xs → IsRising xs
unfolding IsDistinct
rising_of_sorted [] s d = tt
rising_of_sorted (x ∷ xs) s d = (
  λ c i. let t = place_in xs c i in let lt = t.1 in differ x.0 c.0 (of_all (λ y. (x.0 == y.0) ≡ false) xs d.0 c i) (subst (λ (y : Block). x.0 ≤ y.0) (t.2 x) (s 0 (suc t.0) x (omega arith) (omega (arith, lt)))),
  rising_of_sorted xs (λ i j d le lt. s (suc i) (suc j) d (omega (arith, le)) (omega (arith, lt))) d.1,
)

in_permutation : (xs ys : List Block) (c : Block) → IsPermutation xs ys → In c xs → In c ys
in_permutation xs ys c p i =
    let t = place_in xs c i in
    let h : Contains ys c = Contains-permutation xs ys c p (t.0, t.1, t.2 c) in
    subst (λ (d : Block). In d ys) h.2 (in_of ys h.0 c h.1)

-- a rising list is what sorting makes of any of its permutations
pub sorted_is_rising : (old sorted bs : List Block) → IsPermutation old sorted → IsPermutation old bs → IsNonDecreasingBy (λ (b : Block). b.0) sorted → IsRising bs → sorted ≡ bs
sorted_is_rising old sorted bs p q s r =
    let to : IsPermutation bs sorted = IsPermutation-trans bs old sorted (IsPermutation-sym old bs q) p in
    let d = IsDistinct-IsPermutation (λ (a b : Block). a.0 == b.0) (λ x y. same_test x.0 y.0) bs sorted to (distinct_of_rising bs r) in
    same_rising sorted bs (rising_of_sorted sorted s d) r (λ c i. in_permutation sorted bs c (IsPermutation-sym bs sorted to) i) (λ c i. in_permutation bs sorted c to i)
