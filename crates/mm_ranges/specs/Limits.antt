-- What a journal's part may hold: MongoDB 2.6's MMAPv1 files, in the limits of this engine's profile.
use Rattle.std.specs.Prelude.{ℕ, ◌+◌, ◌%◌, Bool, true, ◌&&◌, ◌||◌, if◌then◌else◌, nat_le, nat_lt, ◌==◌, IsTrue, List, [], ◌∷◌}
use Rattle.std.specs.List.{list_all}
use Rattle.mm_ranges.specs.Places.{Range, is_normal}
use Rattle.mm_ranges.specs.Overlay.{ranges_of}
use Rattle.mm_ranges.specs.declared.part.Made.{Made}
use Rattle.mm_ranges.specs.declared.part.Part.{Part}

-- the number of the name file `.ns` in the journal
abbrev pub ns_file : ℕ
ns_file = 0x7fffffff

-- the most bytes that the name file may have, and a data file
abbrev pub most_of_ns : ℕ
most_of_ns = 16_777_216

abbrev pub most_of_data : ℕ
most_of_data = 67_108_864

-- a file is made of whole pages of so many bytes
abbrev pub page_len : ℕ
page_len = 4096

-- a data file, 0 to 7, or the name file
abbrev pub is_file : ℕ → Bool
is_file n = nat_lt n 8 || n == ns_file

-- the most bytes that a file may have
abbrev pub most_of : ℕ → ℕ
most_of n = if n == ns_file then most_of_ns else most_of_data

-- the range reaches no further than its file may
abbrev pub is_allowed : Range → Bool
is_allowed r = is_file r.0 && nat_le (r.1 + r.2) (most_of r.0)

-- a file may be made of this length
abbrev pub may_be_made : Made → Bool
may_be_made m = is_file m.file && (m.len % page_len == 0 && nat_le m.len (most_of m.file))

-- the made file comes before the first of these
abbrev pub is_lowest : Made → List Made → Bool
is_lowest m [] = true
is_lowest m (n ∷ ns) = nat_lt m.file n.file

-- made files in rising number
abbrev pub is_rising : List Made → Bool
is_rising [] = true
is_rising (m ∷ ms) = is_lowest m ms && is_rising ms

-- what may stand in the journal under one database's name: made files and ranges in rising order, within the limits
pub record IsAllowed (part : Part) : Type 0 where
  pub made_rising : IsTrue (is_rising part.made)
  pub made_allowed : IsTrue (list_all may_be_made part.made)
  pub ranges_normal : IsTrue (is_normal (ranges_of part.pieces))
  pub ranges_allowed : IsTrue (list_all is_allowed (ranges_of part.pieces))
