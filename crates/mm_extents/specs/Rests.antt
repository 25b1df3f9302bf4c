-- The unused rest of the last data file, and the files that aren't there yet.
use Rattle.std.specs.Prelude.{◌≡◌, ℕ, pos, ◌+◌, ◌<◌, ◌≤◌, ◌⊎◌, Some, None}
use Rattle.mm_ranges.specs.Overlay.{Image}
use Rattle.mm_links.specs.Links.{Place}
use Rattle.mm_extents.specs.Changes.{len_of}
use Rattle.mm_extents.specs.Files.{file_len, unused_in}

-- the last data file: those before it are there, and none behind it
pub record IsLast (image : Image) (k : ℕ) : Type 0 where
  pub low : k < 8
  pub there : len_of image k ≡ Some (file_len k)
  pub before : (j : ℕ) → j < k → len_of image j ≡ Some (file_len j)
  pub none : (j : ℕ) → k < j → j < 8 → len_of image j ≡ None

-- In the file the bytes from the place on are unused, and they are as many as that.
pub record IsRest (image : Image) (at : Place) (len : ℕ) : Type 0 where
  pub low : at.0 < 8
  pub there : len_of image at.0 ≡ Some (file_len at.0)
  pub unused : unused_in image at.0 ≡ Some (pos at.1)
  pub fits : at.1 + len ≤ file_len at.0

-- Neither has the unused rest of the last file so many bytes, nor a file that isn't there, behind its header.
pub record NoRest (image : Image) (len : ℕ) : Type 0 where
  pub last : (k u : ℕ) → IsLast image k → unused_in image k ≡ Some (pos u) → file_len k < u + len
  pub others : (k : ℕ) → k < 8 → len_of image k ≡ None → file_len k < 8192 + len

-- the file was made, and all files before it too that weren't there: none of those has so many bytes behind its header
pub record IsMade (image : Image) (at : Place) (len : ℕ) : Type 0 where
  pub absent : len_of image at.0 ≡ None
  pub front : at.1 ≡ 8192
  pub shorter : (k : ℕ) → k < at.0 → len_of image k ≡ None → file_len k < 8192 + len

-- the unused rest of the last file has fewer bytes
abbrev pub IsLastShort : Image → ℕ → Type 0
IsLastShort image len = (k u : ℕ) → IsLast image k → unused_in image k ≡ Some (pos u) → file_len k < u + len

-- Where the files next have so many bytes: at the unused rest of the last one; or, where that is too short, behind the header of the first that isn't there yet and has them.
abbrev pub IsNextRest : Image → Place → ℕ → Type 0
IsNextRest image at len = (IsLast image at.0 × IsRest image at len) ⊎ (IsLastShort image len × IsMade image at len × (at.1 + len ≤ file_len at.0))
