-- Lists of different names.
use Rattle.std.proofs.Common.{◌≡◌, ℕ, zero, suc, ◌<◌, ◌≤◌, ◌⊎◌, inl, inr, Bool, true, false, List, [], ◌∷◌, ◌++◌, length, map, refl, sym, ap, arith}
use Rattle.std.specs.Prelude.{◌||◌, slice_index_or}
use Rattle.std.specs.List.{AllByRecursion, IsDistinct, list_any}
use Rattle.std.specs.Cmp.{eq_by_cmp_equiv}
use Rattle.std.specs.Cmp.Lexicographic.{nat_list_cmp_total}
use Rattle.std.proofs.lemmas.Bool.{cases_Bool}
use Rattle.std.proofs.lemmas.Map.Made.{length-le_from_is_member}
use Rattle.mm_links.proofs.LinkLaws.{either}
use Rattle.mm_records.specs.Constants.{is_name}
use Rattle.mm_records.proofs.Freed.{name_is, name_own}

abbrev pub In : {X : Type 0} → X → List X → Type 0
In q [] = ⊥
In q (x ∷ xs) = (q ≡ x) ⊎ In q xs

-- no element stands again behind itself
abbrev pub Differ : {X : Type 0} → List X → Type 0
Differ [] = Unit {0}
Differ (x ∷ xs) = (In x xs → ⊥) × Differ xs

module _ {X : Type 0} where
  pub in_append : (q : X) (xs ys : List X) → In q (xs ++ ys) → In q xs ⊎ In q ys
  in_append q [] ys i = inr i
  in_append q (x ∷ xs) ys (inl e) = inl (inl e)
  in_append q (x ∷ xs) ys (inr i) = elim (in_append q xs ys i) [ inl a ↦ inl (inr a) | inr b ↦ inr b ]

  pub in_left : (q : X) (xs ys : List X) → In q xs → In q (xs ++ ys)
  in_left q [] ys i = absurd i
  in_left q (x ∷ xs) ys (inl e) = inl e
  in_left q (x ∷ xs) ys (inr i) = inr (in_left q xs ys i)

  pub in_right : (q : X) (xs ys : List X) → In q ys → In q (xs ++ ys)
  in_right q [] ys i = i
  in_right q (x ∷ xs) ys i = inr (in_right q xs ys i)

  pub differ_append : (xs ys : List X) → Differ xs → Differ ys → ((q : X) → In q xs → In q ys → ⊥) → Differ (xs ++ ys)
  differ_append [] ys a b n = b
  differ_append (x ∷ xs) ys a b n = (λ i. elim (in_append x xs ys i) [ inl l ↦ a.0 l | inr r ↦ n x (inl refl) r ], differ_append xs ys a.1 b (λ q i j. n q (inr i) j))

  pub in_at : (xs : List X) (i : ℕ) (d : X) → i < length xs → In (slice_index_or xs i d) xs
  in_at [] i d lt = absurd (omega (arith, lt))
  in_at (x ∷ xs) zero d lt = inl refl
  in_at (x ∷ xs) (suc i) d lt = inr (in_at xs i d (omega (arith, lt)))

  pub at_in : (q : X) (xs : List X) (d : X) → In q xs → (i : ℕ) × (i < length xs) × (slice_index_or xs i d ≡ q)
  at_in q [] d i = absurd i
  at_in q (x ∷ xs) d (inl e) = (0, omega arith, sym e)
  at_in q (x ∷ xs) d (inr i) = let t = at_in q xs d i in let lt = t.1 in (suc t.0, omega (arith, lt), t.2)

module _ {X Y : Type 0} (f : X → Y) where
  pub in_map : (xs : List X) (q : Y) → In q (map f xs) → (x : X) × In x xs × (q ≡ f x)
  in_map [] q i = absurd i
  in_map (x ∷ xs) q (inl e) = (x, inl refl, e)
  in_map (x ∷ xs) q (inr i) = let t = in_map xs q i in (t.0, inr t.1, t.2)

  pub map_in : (xs : List X) (x : X) → In x xs → In (f x) (map f xs)
  map_in [] x i = absurd i
  map_in (y ∷ xs) x (inl e) = inl (ap f e)
  map_in (y ∷ xs) x (inr i) = inr (map_in xs x i)

-- ---- how many there are

or_left : (a b : Bool) → a ≡ true → (a || b) ≡ true
or_left true b e = refl
or_left false b e = absurd cc

pub or_right : (a b : Bool) → b ≡ true → (a || b) ≡ true
or_right true b e = refl
or_right false b e = e

member_of : (q : List ℕ) (xs : List (List ℕ)) → In q xs → list_any (is_name q) xs ≡ true
member_of q [] i = absurd i
member_of q (x ∷ xs) (inl e) = or_left (is_name q x) (list_any (is_name q) xs) (name_own q x e)
member_of q (x ∷ xs) (inr i) = or_right (is_name q x) (list_any (is_name q) xs) (member_of q xs i)

of_member : (q : List ℕ) (xs : List (List ℕ)) → list_any (is_name q) xs ≡ true → In q xs
of_member q [] e = absurd cc
of_member q (x ∷ xs) e = elim (either (is_name q x) (list_any (is_name q) xs) e) [ inl y ↦ inl (name_is q x y) | inr n ↦ inr (of_member q xs n) ]

others : (x : List ℕ) (xs : List (List ℕ)) → (In x xs → ⊥) → AllByRecursion (λ y. is_name x y ≡ false) xs
others x [] n = tt
others x (y ∷ xs) n = (elim (cases_Bool (is_name x y)) [ inl t ↦ absurd (n (inl (name_is x y t))) | inr f ↦ f ], others x xs (λ i. n (inr i)))

distinct : (xs : List (List ℕ)) → Differ xs → IsDistinct is_name xs
unfolding IsDistinct
distinct [] d = tt
distinct (x ∷ xs) d = (others x xs d.0, distinct xs d.1)

not_longer : (xs ys : List (List ℕ)) → Differ xs → ((q : List ℕ) → In q xs → In q ys) → length xs ≤ length ys
not_longer xs ys d f = length-le_from_is_member (eq_by_cmp_equiv nat_list_cmp_total) xs ys (distinct xs d) (λ q m. member_of q ys (f q (of_member q xs m)))

-- different names in both lists, and the same ones
pub as_long : (xs ys : List (List ℕ)) → Differ xs → Differ ys → ((q : List ℕ) → In q xs → In q ys) → ((q : List ℕ) → In q ys → In q xs) → length xs ≡ length ys
as_long xs ys a b f g = let le = not_longer xs ys a f in let ge = not_longer ys xs b g in omega (arith, le, ge)
