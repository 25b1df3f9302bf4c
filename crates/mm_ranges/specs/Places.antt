-- Ranges of places. A place is a file's number and an offset in that file.
use Rattle.std.specs.Prelude.{◌≡◌, ℕ, ◌+◌, ◌-◌, ◌^◌, ◌<◌, ◌≤◌, min, max, Bool, true, false, ◌&&◌, ◌||◌, if◌then◌else◌, nat_le, nat_lt, ◌==◌, List, [], ◌∷◌}

-- a file, an offset and a length
abbrev pub Range : Type 0
Range = ℕ × ℕ × ℕ

-- the place lies in the range
abbrev pub is_in : ℕ → ℕ → Range → Bool
is_in file at r = r.0 == file && (nat_le r.1 at && nat_lt at (r.1 + r.2))

-- the place lies in one of the ranges
abbrev pub is_covered : List Range → ℕ → ℕ → Bool
is_covered [] file at = false
is_covered (r ∷ rs) file at = is_in file at r || is_covered rs file at

-- each place of the range lies in one of the ranges
abbrev pub Covers : List Range → ℕ → ℕ → ℕ → Type 0
Covers rs file at len = (i : ℕ) → at ≤ i → i < at + len → is_covered rs file i ≡ true

-- the ranges cover the same places
abbrev pub CoverSame : List Range → List Range → Type 0
CoverSame rs ss = (file at : ℕ) → is_covered rs file at ≡ is_covered ss file at

-- the second range lies within the first
abbrev pub is_within : Range → Range → Bool
is_within r s = r.0 == s.0 && (nat_le r.1 s.1 && nat_le (s.1 + s.2) (r.1 + r.2))

-- r ends before s begins, with a place between them, or its file comes before
abbrev pub is_before : Range → Range → Bool
is_before r s = nat_lt r.0 s.0 || (r.0 == s.0 && nat_lt (r.1 + r.2) s.1)

-- its file and its end are numbers of 32 bits
abbrev pub is_span : Range → Bool
is_span r = nat_lt r.0 (2 ^ 32) && nat_lt (r.1 + r.2) (2 ^ 32)

-- such a span that has a place
abbrev pub is_range : Range → Bool
is_range r = nat_lt 0 r.2 && is_span r

-- r comes before the first of these
abbrev pub is_first : Range → List Range → Bool
is_first r [] = true
is_first r (s ∷ rs) = is_before r s

-- sorted, disjoint and not touching; some may be empty
abbrev pub is_spaced : List Range → Bool
is_spaced [] = true
is_spaced (r ∷ rs) = is_span r && (is_first r rs && is_spaced rs)

-- sorted, disjoint and not touching, and each has a place
abbrev pub is_normal : List Range → Bool
is_normal [] = true
is_normal (r ∷ rs) = is_range r && (is_first r rs && is_normal rs)

-- the least range round two that touch or overlap
abbrev pub joined : Range → Range → Range
joined r s = (r.0, min r.1 s.1, max (r.1 + r.2) (s.1 + s.2) - min r.1 s.1)

-- a range joined with those at the front that it reaches
abbrev pub swallowed : Range → List Range → List Range
swallowed r [] = r ∷ []
swallowed r (s ∷ rs) = if is_before r s then r ∷ s ∷ rs else swallowed (joined r s) rs

-- a range put in among the others
abbrev pub inserted : Range → List Range → List Range
inserted r [] = r ∷ []
inserted r (s ∷ rs) = if is_before s r then s ∷ inserted r rs else swallowed r (s ∷ rs)

-- the ranges of the second put in among the first, one after another
abbrev pub merged : List Range → List Range → List Range
merged rs [] = rs
merged rs (s ∷ ss) = merged (inserted s rs) ss

-- what a range weighs
abbrev pub weight_of : Range → ℕ
weight_of r = r.2 + 12
