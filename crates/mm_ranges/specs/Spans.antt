-- The entries of a map from where spans end to where they start.
use Rattle.std.specs.Prelude.{◌≡◌, ℕ, ◌-◌, ◌≤◌, Bool, true, ◌&&◌, ◌||◌, if◌then◌else◌, nat_le, nat_lt, ◌==◌, List, [], ◌∷◌, Option, Some, None, sum_by}
use Rattle.mm_ranges.specs.Places.{Range, is_before, is_spaced, inserted}
use Rattle.mm_ranges.specs.Room.{is_touched}
use Rattle.mm_ranges.specs.declared.spans.Reach.{Reach}
use Rattle.mm_ranges.specs.declared.spans.Reach.TheVariants.{Inside, Alone, Touching}
use Rattle.mm_ranges.specs.declared.spans.Span.{Span}
use Rattle.mm_ranges.specs.declared.spans.Tally.{Tally}

-- a file and where a span ends in it, and where it starts
abbrev pub Entry : Type 0
Entry = (ℕ × ℕ) × ℕ

abbrev pub span_of : Entry → Range
span_of e = (e.0.0, e.1, e.0.1 - e.1)

abbrev pub spans_of : List Entry → List Range
spans_of [] = []
spans_of (e ∷ es) = span_of e ∷ spans_of es

-- it ends before the place
abbrev pub ends_before : Entry → ℕ → ℕ → Bool
ends_before e file at = nat_lt e.0.0 file || (e.0.0 == file && nat_lt e.0.1 at)

-- the first that ends at the place or after it
abbrev pub first_at : ℕ → ℕ → List Entry → Option Entry
first_at file at [] = None
first_at file at (e ∷ es) = if ends_before e file at then first_at file at es else Some e

-- each starts no later than it ends
abbrev pub are_forward : List Entry → Bool
are_forward [] = true
are_forward (e ∷ es) = nat_le e.1 e.0.1 && are_forward es

-- 1 for a range that has a place
abbrev pub count_of : Range → ℕ
count_of r = if nat_lt 0 r.2 then 1 else 0

-- what holds of the entries at all times
pub record IsKept (es : List Entry) : Type 0 where
  pub forward : are_forward es ≡ true
  pub spaced : is_spaced (spans_of es) ≡ true

-- how many places the spans have
abbrev pub places_in : List Entry → ℕ
places_in es = sum_by (λ (r : Range). r.2) (spans_of es)

-- how many of them have one
abbrev pub ranges_in : List Entry → ℕ
ranges_in es = sum_by count_of (spans_of es)

-- what is counted is what the spans hold
pub record Counts (tally : Tally) (es : List Entry) : Type 0 where
  pub places_counted : tally.places ≡ places_in es
  pub ranges_counted : tally.ranges ≡ ranges_in es

-- a span's entry in the map
abbrev pub entry_of : Span → Entry
entry_of s = ((s.file, s.end), s.start)

-- a span as a range
abbrev pub range_of : Span → Range
range_of s = (s.file, s.start, s.end - s.start)

-- A span that can be put in with no memory, since its end is touched.
pub record Joins (whole : Span) (es : List Entry) : Type 0 where
  pub order : whole.start ≤ whole.end
  pub touched : is_touched (spans_of es) whole.file whole.end ≡ true

-- no span that ends within it reaches it
abbrev pub IsLast : Span → List Entry → Type 0
IsLast whole es = (e : Entry) → first_at whole.file whole.start es ≡ Some e → whole.end ≤ e.0.1

-- no span touches it: the first that doesn't end before it begins behind it
abbrev pub IsAlone : Span → List Entry → Type 0
IsAlone whole es = (e : Entry) → first_at whole.file whole.start es ≡ Some e → is_before (range_of whole) (span_of e) ≡ true

-- what is said of a span that lies so to those of a map
abbrev pub LiesSo : Reach → Span → List Entry → Type 0
LiesSo Inside whole es = inserted (range_of whole) (spans_of es) ≡ spans_of es
LiesSo Alone whole es = IsAlone whole es
LiesSo Touching whole es = Unit {0}

-- entries in order, and counted
pub record IsCounted (tally : Tally) (es : List Entry) : Type 0 where
  pub kept : IsKept es
  pub counts : Counts tally es
