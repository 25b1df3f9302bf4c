-- What a set covers.
use Rattle.std.proofs.Common.{◌≡◌, ◌↔◌, ℕ, ◌+◌, ◌<◌, ◌≤◌, Bool, true, false, List, [], ◌∷◌, ◌++◌, refl, sym, ◌∙◌, ap, arith, inl, inr}
use Rattle.std.specs.Prelude.{◌&&◌, ◌||◌, nat_lt, nat_le, ◌==◌}
use Rattle.std.proofs.lemmas.Bool.{cases_Bool, or_from, or_left, both_ways}
use Rattle.std.proofs.lemmas.Bool.Decides.{nat_tests}
use Rattle.mm_ranges.specs.Places.{Range, is_in, is_covered, Covers, is_within, is_before, is_spaced}
use Rattle.mm_ranges.proofs.Order.{spaced_parts}
use Rattle.mm_ranges.proofs.Splits.{AllBefore, spaced_after}

-- the place comes no later than the end of the range
abbrev pub is_up_to : ℕ → ℕ → Range → Bool
is_up_to file at r = nat_lt file r.0 || (r.0 == file && nat_le at (r.1 + r.2))

-- what comes after a range doesn't cover what comes before its end
pub uncovered_after : (r : Range) (rs : List Range) (file at : ℕ) → is_spaced (r ∷ rs) ≡ true → is_up_to file at r ≡ true → is_covered rs file at ≡ false
uncovered_after r [] file at h up = refl
uncovered_after r (s ∷ rs) file at h up =
    let parts = spaced_parts r (s ∷ rs) h in
    or_from (is_in file at s) (is_covered rs file at) (out_of_next r s file at parts.first up) (uncovered_after s rs file at parts.rest (up_to_next r s file at parts.first up))
  where
    out_of_next : (r s : Range) (file at : ℕ) → is_before r s ≡ true → is_up_to file at r ≡ true → is_in file at s ≡ false
    out_of_next r s file at b up = grind (arith, nat_tests)

    up_to_next : (r s : Range) (file at : ℕ) → is_before r s ≡ true → is_up_to file at r ≡ true → is_up_to file at s ≡ true
    up_to_next r s file at b up = grind (arith, nat_tests)

covered-append : (ps qs : List Range) (f p : ℕ) → is_covered (ps ++ qs) f p ≡ (is_covered ps f p || is_covered qs f p)
covered-append [] qs f p = refl
covered-append (r ∷ ps) qs f p = ap (λ b. is_in f p r || b) (covered-append ps qs f p) ∙ sym (or-assoc (is_in f p r) (is_covered ps f p) (is_covered qs f p))
  where
    or-assoc : (a b c : Bool) → ((a || b) || c) ≡ (a || (b || c))
    or-assoc true b c = refl
    or-assoc false b c = refl

-- those that end before a range cover none of its places
uncovered_before : (ps : List Range) (n : Range) (p : ℕ) → AllBefore ps n → n.1 ≤ p → is_covered ps n.0 p ≡ false
uncovered_before [] n p before le = refl
uncovered_before (r ∷ ps) n p before le = or_from (is_in n.0 p r) (is_covered ps n.0 p) (out_before r n p before.0 le) (uncovered_before ps n p before.1 le)
  where
    out_before : (r n : Range) (p : ℕ) → is_before r n ≡ true → n.1 ≤ p → is_in n.0 p r ≡ false
    out_before r n p b le = grind (arith, nat_tests)

covered_past : (ps qs : List Range) (n : Range) (p : ℕ) → AllBefore ps n → n.1 ≤ p → is_covered (ps ++ qs) n.0 p ≡ is_covered qs n.0 p
covered_past ps qs n p before le = covered-append ps qs n.0 p ∙ ap (λ b. b || is_covered qs n.0 p) (uncovered_before ps n p before le)

within_in : (r n : Range) (p : ℕ) → is_within r n ≡ true → n.1 ≤ p → p < n.1 + n.2 → is_in n.0 p r ≡ true
within_in r n p w from to = grind (arith, nat_tests)

-- the first that doesn't end before the range decides whether it is covered
in_or_after : (r n : Range) → is_before r n ≡ false → is_in n.0 n.1 r ≡ false → is_up_to n.0 n.1 r ≡ true
in_or_after r n b out = grind (arith, nat_tests)

past_end : (r n : Range) → is_in n.0 n.1 r ≡ true → is_within r n ≡ false → (n.1 ≤ r.1 + r.2) × ((r.1 + r.2 < n.1 + n.2) × ((is_in n.0 (r.1 + r.2) r ≡ false) × (is_up_to n.0 (r.1 + r.2) r ≡ true)))
past_end r n i w = (grind (arith, nat_tests), (grind (arith, nat_tests), (grind (arith, nat_tests), grind (arith, nat_tests))))

pub covers_head : (r : Range) (rs : List Range) (n : Range) → is_spaced (r ∷ rs) ≡ true → 0 < n.2 → is_before r n ≡ false → Covers (r ∷ rs) n.0 n.1 n.2 → is_within r n ≡ true
covers_head r rs n h some b all = elim (cases_Bool (is_within r n)) [
  | inl fine ↦ fine
  | inr not_fine ↦ elim (cases_Bool (is_in n.0 n.1 r)) [
    | inl at ↦
        let e = past_end r n at not_fine in
        absurd (both_ways (is_covered (r ∷ rs) n.0 (r.1 + r.2)) (or_from (is_in n.0 (r.1 + r.2) r) (is_covered rs n.0 (r.1 + r.2)) e.1.1.0 (uncovered_after r rs n.0 (r.1 + r.2) h e.1.1.1)) (all (r.1 + r.2) e.0 e.1.0))
    | inr out ↦
        absurd (both_ways (is_covered (r ∷ rs) n.0 n.1) (or_from (is_in n.0 n.1 r) (is_covered rs n.0 n.1) out (uncovered_after r rs n.0 n.1 h (in_or_after r n b out))) (all n.1 (omega arith) (omega arith)))
  ]
]

-- a set covers a range where the first span that doesn't end before it holds it
pub covers_by_first : (ps qs : List Range) (n r : Range) → is_spaced (ps ++ r ∷ qs) ≡ true → 0 < n.2 → AllBefore ps n → is_before r n ≡ false
    → (is_within r n ≡ true) ↔ Covers (ps ++ r ∷ qs) n.0 n.1 n.2
covers_by_first ps qs n r h some before here = (
  λ w p low high. covered_past ps (r ∷ qs) n p before low ∙ or_left (is_in n.0 p r) (is_covered qs n.0 p) (within_in r n p w low high),
  λ all. covers_head r qs n (spaced_after ps (r ∷ qs) h) some here (λ p low high. sym (covered_past ps (r ∷ qs) n p before low) ∙ all p low high),
)

pub covers_nothing : (ps : List Range) (n : Range) → 0 < n.2 → AllBefore ps n → Covers ps n.0 n.1 n.2 → ⊥
covers_nothing ps n some before all = both_ways (is_covered ps n.0 n.1) (uncovered_before ps n n.1 before (omega arith)) (all n.1 (omega arith) (omega arith))
