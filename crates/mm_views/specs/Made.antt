-- Files that are made, as a list in rising number.
use Rattle.std.specs.Prelude.{◌≡◌, ℕ, suc, Bool, true, false, ◌&&◌, ◌||◌, if◌then◌else◌, nat_lt, ◌==◌, List, [], ◌∷◌, ◌++◌, None}
use Rattle.std.specs.FinMap.{get, remove}
use Rattle.mm_ranges.specs.Limits.{is_file}
use Rattle.mm_ranges.specs.Overlay.{Image}
use Rattle.mm_ranges.specs.declared.part.Made.{Made}
use Rattle.mm_ranges.specs.declared.part.Part.{Part}

-- the file is one of those made
abbrev pub is_made : List Made → ℕ → Bool
is_made [] file = false
is_made (m ∷ ms) file = m.file == file || is_made ms file

-- the length of a file that is made
abbrev pub made_len : List Made → ℕ → ℕ
made_len [] file = 0
made_len (m ∷ ms) file = if m.file == file then m.len else made_len ms file

-- one more, in its place by number
abbrev pub with_one : Made → List Made → List Made
with_one m [] = m ∷ []
with_one m (n ∷ ns) = if nat_lt m.file n.file then m ∷ n ∷ ns else n ∷ with_one m ns

-- the second put in among the first
abbrev pub with_all : List Made → List Made → List Made
with_all ms [] = ms
with_all ms (n ∷ ns) = with_all (with_one n ms) ns

-- none of them is in the image
abbrev pub AreNew : Image → List Made → Type 0
AreNew image ms = (file : ℕ) → is_made ms file ≡ true → get image file ≡ None

-- the image without them
abbrev pub without_made : List Made → Image → Image
without_made [] image = image
without_made (m ∷ ms) image = remove (without_made ms image) m.file

-- those that parts make
abbrev pub made_in : List Part → List Made
made_in [] = []
made_in (part ∷ parts) = part.made ++ made_in parts

-- how many of them stand before the first of a greater number
abbrev pub place_in : List Made → ℕ → ℕ
place_in [] file = 0
place_in (m ∷ ms) file = if nat_lt file m.file then 0 else suc (place_in ms file)

-- a database may have them
abbrev pub are_all_files : List Made → Bool
are_all_files [] = true
are_all_files (m ∷ ms) = is_file m.file && are_all_files ms
