-- The order of spans.
use Rattle.std.proofs.Common.{◌≡◌, ℕ, ◌+◌, ◌^◌, ◌<◌, true, List, [], ◌∷◌, refl, arith}
use Rattle.std.specs.Prelude.{◌&&◌, nat_lt}
use Rattle.std.proofs.lemmas.Bool.{and_parts, and_from}
use Rattle.std.proofs.lemmas.Bool.Decides.{nat_tests}
use Rattle.mm_ranges.specs.Places.{Range, is_before, is_span, is_range, is_first, is_spaced, is_normal}

pub before_trans : (r s n : Range) → is_before r s ≡ true → is_before s n ≡ true → is_before r n ≡ true
before_trans r s n a b = grind (arith, nat_tests)

-- what a list in order says of its first and of the others
pub record Spaced (r : Range) (rs : List Range) : Type 0 where
  pub span : is_span r ≡ true
  pub first : is_first r rs ≡ true
  pub rest : is_spaced rs ≡ true

pub spaced_parts : (r : Range) (rs : List Range) → is_spaced (r ∷ rs) ≡ true → Spaced r rs
spaced_parts r rs h =
    let outer = and_parts (is_span r) (is_first r rs && is_spaced rs) h in
    let inner = and_parts (is_first r rs) (is_spaced rs) outer.1 in
    record { span = outer.0; first = inner.0; rest = inner.1 }

pub spaced_from : (r : Range) (rs : List Range) → is_span r ≡ true → is_first r rs ≡ true → is_spaced rs ≡ true → is_spaced (r ∷ rs) ≡ true
spaced_from r rs span first rest = and_from (is_span r) (is_first r rs && is_spaced rs) span (and_from (is_first r rs) (is_spaced rs) first rest)

pub record Normal (r : Range) (rs : List Range) : Type 0 where
  pub range : is_range r ≡ true
  pub first : is_first r rs ≡ true
  pub rest : is_normal rs ≡ true

pub normal_parts : (r : Range) (rs : List Range) → is_normal (r ∷ rs) ≡ true → Normal r rs
normal_parts r rs h =
    let outer = and_parts (is_range r) (is_first r rs && is_normal rs) h in
    let inner = and_parts (is_first r rs) (is_normal rs) outer.1 in
    record { range = outer.0; first = inner.0; rest = inner.1 }

pub normal_from : (r : Range) (rs : List Range) → is_range r ≡ true → is_first r rs ≡ true → is_normal rs ≡ true → is_normal (r ∷ rs) ≡ true
normal_from r rs range first rest = and_from (is_range r) (is_first r rs && is_normal rs) range (and_from (is_first r rs) (is_normal rs) first rest)

pub span_of_range : (r : Range) → is_range r ≡ true → is_span r ≡ true
span_of_range r h = (and_parts (nat_lt 0 r.2) (is_span r) h).1

pub spaced_of_normal : (rs : List Range) → is_normal rs ≡ true → is_spaced rs ≡ true
spaced_of_normal [] h = refl
spaced_of_normal (r ∷ rs) h =
    let parts = normal_parts r rs h in
    spaced_from r rs (span_of_range r parts.range) parts.first (spaced_of_normal rs parts.rest)

-- what comes before the first of a list comes before the first of its rest
pub first_skips : (q r : Range) (rs : List Range) → is_before q r ≡ true → is_first r rs ≡ true → is_first q rs ≡ true
first_skips q r [] a b = refl
first_skips q r (s ∷ rs) a b = before_trans q r s a b

pub span_from : (file at len : ℕ) → file < 2 ^ 32 → at + len < 2 ^ 32 → is_span (file, at, len) ≡ true
span_from file at len a b = grind (arith, nat_tests)

pub range_from : (file at len : ℕ) → file < 2 ^ 32 → 0 < len → at + len < 2 ^ 32 → is_range (file, at, len) ≡ true
range_from file at len a b c = grind (arith, nat_tests)
