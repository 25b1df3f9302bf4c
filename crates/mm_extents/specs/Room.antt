-- The room of the files: how many bytes may still become extents.
use Rattle.std.specs.Prelude.{ℕ, zero, suc, ℤ, pos, negsuc, ◌+◌, ◌-◌, ◌≤◌, Option, Some, None}
use Rattle.mm_ranges.specs.Overlay.{Image}
use Rattle.mm_extents.specs.Changes.{len_of}
use Rattle.mm_extents.specs.Files.{file_len, unused_in}

-- how many bytes data file k has from where its unused rest begins
abbrev pub unused_rest : ℕ → Option ℤ → ℕ
unused_rest k (Some (pos u)) = file_len k - u
unused_rest k (Some (negsuc u)) = 0
unused_rest k None = 0

-- The last file gives its unused rest. A file that isn't there gives its length less 8192, besides what those below it give.
abbrev pub room_with : ℕ → Option ℕ → Option ℤ → ℕ → ℕ
room_with k (Some len) unused below = unused_rest k unused
room_with k None unused below = (file_len k - 8192) + below

-- the room of the first n data files, from the n-th downwards
abbrev pub room_upto : Image → ℕ → ℕ
room_upto image zero = 0
room_upto image (suc k) = room_with k (len_of image k) (unused_in image k) (room_upto image k)

-- The unused rest of the last file, and for each of the eight that isn't there yet its length less 8192.
unfoldable pub room : Image → ℕ
room image = room_upto image 8

-- The room doesn't rise, and falls by at most so many bytes.
pub record LowersRoom (n : ℕ) (old new : Image) : Type 0 where
  pub most : room old ≤ room new + n
  pub no_rise : room new ≤ room old
