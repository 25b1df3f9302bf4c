-- Sets of ranges that hold room for more: an empty span is room for a range that ends there.
use Rattle.std.specs.Prelude.{ℕ, ◌+◌, Bool, true, false, ◌&&◌, ◌||◌, if◌then◌else◌, nat_le, nat_lt, ◌==◌, List, [], ◌∷◌}
use Rattle.mm_ranges.specs.Places.{Range}

-- the spans that have a place
abbrev pub shown : List Range → List Range
shown [] = []
shown (r ∷ rs) = if nat_lt 0 r.2 then r ∷ shown rs else shown rs

-- the place lies in the range, or at its end
abbrev pub is_at : ℕ → ℕ → Range → Bool
is_at file at r = r.0 == file && (nat_le r.1 at && nat_le at (r.1 + r.2))

-- the place lies in one of the spans, or at the end of one
abbrev pub is_touched : List Range → ℕ → ℕ → Bool
is_touched [] file at = false
is_touched (r ∷ rs) file at = is_at file at r || is_touched rs file at

-- The end of each of the ranges is touched: they can be merged with no memory.
abbrev pub has_room : List Range → List Range → Bool
has_room rs [] = true
has_room rs (s ∷ ss) = is_touched rs s.0 (s.1 + s.2) && has_room rs ss

-- an empty span at the place
abbrev pub is_room : ℕ → ℕ → Range → Bool
is_room file at r = r.0 == file && (r.1 == at && r.2 == 0)

-- the spans without it
abbrev pub without_room : ℕ → ℕ → List Range → List Range
without_room file at [] = []
without_room file at (r ∷ rs) = if is_room file at r then without_room file at rs else r ∷ without_room file at rs

-- the spans without the room at the end of each of the ranges
abbrev pub given_back : List Range → List Range → List Range
given_back rs [] = rs
given_back rs (s ∷ ss) = given_back (without_room s.0 (s.1 + s.2) rs) ss
