-- A set of places has one normal form.
use Rattle.std.proofs.Common.{◌≡◌, ℕ, ◌+◌, ◌<◌, ◌≤◌, true, false, List, [], ◌∷◌, refl, sym, ◌∙◌, ap, subst, arith, inl, inr, ◌⊎◌}
use Rattle.std.specs.Prelude.{◌||◌}
use Rattle.std.proofs.lemmas.Bool.{cases_Bool, both_ways, or_cases, or_left, or_from, cases_order, cases_lt}
use Rattle.std.proofs.lemmas.Bool.Decides.{nat_tests}
use Rattle.mm_ranges.specs.Places.{Range, is_in, is_covered, CoverSame, is_range, is_spaced, is_normal}
use Rattle.mm_ranges.proofs.Order.{normal_parts, spaced_of_normal}
use Rattle.mm_ranges.proofs.Covering.{is_up_to, uncovered_after}

in_up_to : (r : Range) (f p : ℕ) → is_in f p r ≡ true → is_up_to f p r ≡ true
in_up_to r f p i = grind (arith, nat_tests)

first_in : (r : Range) → is_range r ≡ true → is_in r.0 r.1 r ≡ true
first_in r h = grind (arith, nat_tests)

-- a range begins no earlier than the first one of those that cover its first place
begins : (r s : Range) (ss : List Range) → is_normal (s ∷ ss) ≡ true → is_covered (s ∷ ss) r.0 r.1 ≡ true → (s.0 < r.0) ⊎ ((s.0 ≡ r.0) × (s.1 ≤ r.1))
begins r s ss n c = elim (cases_Bool (is_up_to r.0 r.1 s)) [
  | inl up ↦ elim (or_cases (is_in r.0 r.1 s) (is_covered ss r.0 r.1) c) [
    | inl here ↦ inr (same_file r s here, start r s here)
    | inr later ↦ absurd (both_ways _ (uncovered_after s ss r.0 r.1 (spaced_of_normal (s ∷ ss) n) up) later)
  ]
  | inr past ↦ after r s past
]
  where
    same_file : (r s : Range) → is_in r.0 r.1 s ≡ true → s.0 ≡ r.0
    same_file r s i = grind (arith, nat_tests)

    start : (r s : Range) → is_in r.0 r.1 s ≡ true → s.1 ≤ r.1
    start r s i = grind (arith, nat_tests)

    after : (r s : Range) → is_up_to r.0 r.1 s ≡ false → (s.0 < r.0) ⊎ ((s.0 ≡ r.0) × (s.1 ≤ r.1))
    after r s u = elim (cases_order s.0 r.0) [
      | inl e ↦ inr (e, grind (arith, nat_tests, e))
      | inr o ↦ elim o [ inl lt ↦ inl lt | inr gt ↦ absurd (grind (arith, nat_tests, gt)) ]
    ]

same_start : (r s : Range) → (s.0 < r.0) ⊎ ((s.0 ≡ r.0) × (s.1 ≤ r.1)) → (r.0 < s.0) ⊎ ((r.0 ≡ s.0) × (r.1 ≤ s.1)) → (r.0 ≡ s.0) × (r.1 ≡ s.1)
same_start r s (inl a) (inl b) = absurd (omega arith)
same_start r s (inl a) (inr b) = absurd (omega arith)
same_start r s (inr a) (inl b) = absurd (omega arith)
same_start r s (inr a) (inr b) = (sym a.0, omega arith)

-- of two that begin alike neither is longer
no_longer : (r s : Range) (rs ss : List Range) → is_spaced (r ∷ rs) ≡ true → r.0 ≡ s.0 → r.1 ≡ s.1 → ((f p : ℕ) → is_covered (s ∷ ss) f p ≡ true → is_covered (r ∷ rs) f p ≡ true) → s.2 ≤ r.2
no_longer r s rs ss n e0 e1 c = elim (cases_lt r.2 s.2) [
  | inl lt ↦
      absurd (both_ways _ (or_from (is_in r.0 (r.1 + r.2) r) (is_covered rs r.0 (r.1 + r.2)) (end_out r) (uncovered_after r rs r.0 (r.1 + r.2) n (end_up r)))
      (c r.0 (r.1 + r.2) (or_left _ (is_covered ss r.0 (r.1 + r.2)) (end_in r s e0 e1 lt))))
  | inr le ↦ le
]
  where
    end_out : (r : Range) → is_in r.0 (r.1 + r.2) r ≡ false
    end_out r = grind (arith, nat_tests)

    end_up : (r : Range) → is_up_to r.0 (r.1 + r.2) r ≡ true
    end_up r = grind (arith, nat_tests)

    end_in : (r s : Range) → r.0 ≡ s.0 → r.1 ≡ s.1 → r.2 < s.2 → is_in r.0 (r.1 + r.2) s ≡ true
    end_in r s e0 e1 lt = grind (arith, nat_tests)

-- without the first, which both have, the rest covers the same
rest_same : (r : Range) (rs ss : List Range) → is_spaced (r ∷ rs) ≡ true → is_spaced (r ∷ ss) ≡ true → CoverSame (r ∷ rs) (r ∷ ss) → CoverSame rs ss
rest_same r rs ss n m c f p = elim (cases_Bool (is_in f p r)) [
  | inl here ↦ let up = in_up_to r f p here in uncovered_after r rs f p n up ∙ sym (uncovered_after r ss f p m up)
  | inr out ↦ ap (λ b. b || is_covered rs f p) (sym out) ∙ c f p ∙ ap (λ b. b || is_covered ss f p) out
]

-- Two lists in normal form that cover the same places are one.
pub one_normal_form : (rs ss : List Range) → is_normal rs ≡ true → is_normal ss ≡ true → CoverSame rs ss → rs ≡ ss
one_normal_form [] [] n m c = refl
one_normal_form [] (s ∷ ss) n m c = absurd (both_ways _ (sym (c s.0 s.1)) (or_left _ (is_covered ss s.0 s.1) (first_in s (normal_parts s ss m).range)))
one_normal_form (r ∷ rs) [] n m c = absurd (both_ways _ (c r.0 r.1) (or_left _ (is_covered rs r.0 r.1) (first_in r (normal_parts r rs n).range)))
one_normal_form (r ∷ rs) (s ∷ ss) n m c =
    let start = same_start r s (begins r s ss m (sym (c r.0 r.1) ∙ or_left _ (is_covered rs r.0 r.1) (first_in r (normal_parts r rs n).range)))
    (begins s r rs n (c s.0 s.1 ∙ or_left _ (is_covered ss s.0 s.1) (first_in s (normal_parts s ss m).range))) in
    let a : s.2 ≤ r.2 = no_longer r s rs ss (spaced_of_normal (r ∷ rs) n) start.0 start.1 (λ f p h. c f p ∙ h) in
    let b : r.2 ≤ s.2 = no_longer s r ss rs (spaced_of_normal (s ∷ ss) m) (sym start.0) (sym start.1) (λ f p h. sym (c f p) ∙ h) in
    let count : r.2 ≡ s.2 = omega (arith, a, b) in
    let same : r ≡ s = (λ i. (start.0 i, start.1 i, count i)) in
    ap (λ (x : Range). x ∷ rs) same ∙ ap (λ (xs : List Range). s ∷ xs)
    (one_normal_form rs ss (normal_parts r rs n).rest (normal_parts s ss m).rest
    (rest_same s rs ss (subst (λ (x : Range). is_spaced (x ∷ rs) ≡ true) same (spaced_of_normal (r ∷ rs) n)) (spaced_of_normal (s ∷ ss) m) (λ f p. subst (λ (x : Range). is_covered (x ∷ rs) f p ≡ is_covered (s ∷ ss) f p) same (c f p))))
