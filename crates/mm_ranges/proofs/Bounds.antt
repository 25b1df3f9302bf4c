-- What spans hold is counted in 64 bits.
use Rattle.std.proofs.Common.{◌≡◌, ℕ, ◌+◌, ◌*◌, ◌^◌, ◌<◌, ◌≤◌, true, List, [], ◌∷◌, refl, sym, ◌∙◌, ap, subst, arith, inl, inr, sum_by}
use Rattle.std.specs.Prelude.{nat_lt}
use Rattle.std.proofs.lemmas.Bool.{cases_Bool, cond-true, cond-false}
use Rattle.std.proofs.lemmas.Bool.Decides.{nat_tests}
use Rattle.std.proofs.lemmas.List.Sums.{sum_by-cons, sum_by-le-sum_by}
use Rattle.mm_ranges.specs.Places.{Range, is_before, is_span, is_spaced, weight_of}
use Rattle.mm_ranges.specs.Room.{shown}
use Rattle.mm_ranges.specs.Spans.{Entry, Counts, spans_of, count_of}
use Rattle.mm_ranges.specs.declared.spans.Tally.{Tally}
use Rattle.mm_ranges.proofs.Order.{spaced_parts}

-- the places of a span, and one behind it
abbrev room_of : Range → ℕ
room_of r = r.2 + 1

-- what spans take fits between the first one's start and the last place of the last file
fits_from : (r : Range) (rs : List Range) → is_spaced (r ∷ rs) ≡ true → sum_by room_of (r ∷ rs) + (r.0 * 2 ^ 32 + r.1) ≤ 2 ^ 64
fits_from r [] h = subst (λ n. n + (r.0 * 2 ^ 32 + r.1) ≤ 2 ^ 64) (sym (sum_by-cons room_of r [])) (last r (spaced_parts r [] h).span)
  where
    last : (r : Range) → is_span r ≡ true → (room_of r + 0) + (r.0 * 2 ^ 32 + r.1) ≤ 2 ^ 64
    last r s = grind (arith, nat_tests)
fits_from r (s ∷ rs) h =
    let parts = spaced_parts r (s ∷ rs) h in
    subst (λ n. n + (r.0 * 2 ^ 32 + r.1) ≤ 2 ^ 64) (sym (sum_by-cons room_of r (s ∷ rs)))
    (next r s (sum_by room_of (s ∷ rs)) parts.span parts.first (fits_from s rs parts.rest))
  where
    next : (r s : Range) (more : ℕ) → is_span r ≡ true → is_before r s ≡ true → more + (s.0 * 2 ^ 32 + s.1) ≤ 2 ^ 64 → (room_of r + more) + (r.0 * 2 ^ 32 + r.1) ≤ 2 ^ 64
    next r s more span b le = grind (arith, nat_tests)

sum_room : (rs : List Range) → sum_by (λ (s : Range). s.2) rs ≤ sum_by room_of rs
sum_room rs = sum_by-le-sum_by (λ (s : Range). s.2) room_of rs (λ s. omega arith)

count_le : (s : Range) → count_of s ≤ s.2
count_le s = elim (cases_Bool (nat_lt 0 s.2)) [
  | inl some ↦ subst (λ n. n ≤ s.2) (sym (cond-true (nat_lt 0 s.2) 1 0 some)) (grind (arith, nat_tests))
  | inr none ↦ subst (λ n. n ≤ s.2) (sym (cond-false (nat_lt 0 s.2) 1 0 none)) (omega arith)
]

pub places_fit : (rs : List Range) → is_spaced rs ≡ true → sum_by (λ (s : Range). s.2) rs < 2 ^ 64
places_fit [] h = omega arith
places_fit (r ∷ rs) h =
    let all = fits_from r rs h in
    let one = sum_by-cons room_of r rs in
    let own = sum_by-cons (λ (s : Range). s.2) r rs in
    let rest = sum_room rs in
    omega arith

pub ranges_fit : (rs : List Range) → is_spaced rs ≡ true → sum_by count_of rs < 2 ^ 64
ranges_fit rs h =
    let le : sum_by count_of rs ≤ sum_by (λ (s : Range). s.2) rs = sum_by-le-sum_by count_of (λ (s : Range). s.2) rs count_le in
    let fits = places_fit rs h in
    omega arith

-- what a set weighs, by what is counted
pub weight_counted : (rs : List Range) → sum_by weight_of (shown rs) ≡ sum_by (λ (s : Range). s.2) rs + 12 * sum_by count_of rs
weight_counted [] = refl
weight_counted (r ∷ rs) = elim (cases_Bool (nat_lt 0 r.2)) [
  | inl some ↦
      let all : sum_by weight_of (shown (r ∷ rs)) ≡ sum_by weight_of (r ∷ shown rs) = ap (sum_by weight_of) (cond-true (nat_lt 0 r.2) (r ∷ shown rs) (shown rs) some) in
      let weight = sum_by-cons weight_of r (shown rs) in
      let places = sum_by-cons (λ (s : Range). s.2) r rs in
      let counts = sum_by-cons count_of r rs in
      let one : count_of r ≡ 1 = cond-true (nat_lt 0 r.2) 1 0 some in
      let more = weight_counted rs in
      omega arith
  | inr none ↦
      let all : sum_by weight_of (shown (r ∷ rs)) ≡ sum_by weight_of (shown rs) = ap (sum_by weight_of) (cond-false (nat_lt 0 r.2) (r ∷ shown rs) (shown rs) none) in
      let places = sum_by-cons (λ (s : Range). s.2) r rs in
      let counts = sum_by-cons count_of r rs in
      let zero_count : count_of r ≡ 0 = cond-false (nat_lt 0 r.2) 1 0 none in
      let zero_len : r.2 ≡ 0 = grind (arith, nat_tests) in
      let more = weight_counted rs in
      omega arith
]

pub weighed : (tally : Tally) (es : List Entry) (rs : List Range) → Counts tally es → spans_of es ≡ rs → sum_by weight_of (shown rs) ≡ tally.places + 12 * tally.ranges
weighed tally es rs counts is =
    let all = ap (λ (xs : List Range). sum_by weight_of (shown xs)) (sym is) ∙ weight_counted (spans_of es) in
    let places = counts.places_counted in
    let ranges = counts.ranges_counted in
    omega arith
