-- The files of a database and their headers (MongoDB 2.6, MMAPv1).
use Rattle.std.specs.Prelude.{◌≡◌, ℕ, ℤ, pos, suc, ◌-◌, ◌*◌, ◌^◌, ◌<◌, ◌≤◌, min, List, length, Option, Some, None, if◌then◌else◌, nat_lt, ◌==◌}
use Rattle.mm_base.specs.Bytes.{part}
use Rattle.mm_ranges.specs.Overlay.{Image, bytes_at}
use Rattle.mm_ranges.specs.declared.limits.TheConstants.{NS_FILE}
use Rattle.mm_frames.specs.FileHeader.{file_header_of, file_header_bytes}
use Rattle.mm_frames.specs.declared.file_header.FileHeader.{FileHeader}
use Rattle.mm_extents.specs.Changes.{loc, len_of}

-- data file k has 1, 2, 4, 8, 16, 32, 64, 64 MiB, for k from 0 to 7
abbrev pub file_len : ℕ → ℕ
file_len k = 1048576 * 2 ^ min k 6

-- the header of data file k, of which no extent has the bytes from `unused` on
abbrev pub header_with : ℕ → ℕ → FileHeader
header_with k unused = record { version = 4; version_minor = 5; file_length = file_len k; unused = loc (k, unused); unused_length = file_len k - unused }

-- these bytes are such a header
pub record IsHeader (k : ℕ) (bytes : List ℕ) : Type 0 where
  pub unused : ℕ
  pub spelled : bytes ≡ file_header_bytes (header_with k unused)
  pub from : 8192 ≤ unused
  pub to : unused ≤ file_len k

-- The files are `.ns` and data files from 0 upwards without a gap, with their lengths and headers.
pub record FilesStand (image : Image) : Type 0 where
  pub names : (mib : ℕ) × (1 ≤ mib) × (mib ≤ 16) × (len_of image NS_FILE ≡ Some (mib * 1048576))
  pub first : len_of image 0 ≡ Some (file_len 0)
  pub long : (k n : ℕ) → k < 8 → len_of image k ≡ Some n → n ≡ file_len k
  pub no_gap : (k : ℕ) → k < 7 → len_of image k ≡ None → len_of image (suc k) ≡ None
  pub headers : (k n : ℕ) → k < 8 → len_of image k ≡ Some n → IsHeader k (part 0 8192 (bytes_at image k))

-- where the unused rest of a data file begins, as its header says
abbrev pub header_unused : List ℕ → Option ℤ
header_unused header = if length header == 8192 then Some (file_header_of header).unused.ofs else None

abbrev pub unused_in : Image → ℕ → Option ℤ
unused_in image file = if nat_lt file 8 then header_unused (part 0 8192 (bytes_at image file)) else None

-- There is `.ns`, of 1 to 16 whole MiB, and no data file.
pub record HasNamesAlone (image : Image) : Type 0 where
  pub names : (mib : ℕ) × (1 ≤ mib) × (mib ≤ 16) × (len_of image NS_FILE ≡ Some (mib * 1048576))
  pub none : (k : ℕ) → k < 8 → len_of image k ≡ None

-- The data files have no extents: the unused rest of each begins behind its header.
abbrev pub AreUnused : Image → Type 0
AreUnused image = (k u : ℕ) → unused_in image k ≡ Some (pos u) → 8192 ≡ u
