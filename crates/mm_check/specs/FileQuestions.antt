-- The files of a database: phase 1 of the check.
use Rattle.std.specs.Prelude.{ℕ, zero, suc, ◌%◌, Bool, true, false, ◌&&◌, ◌==◌, not, nat_le, List, [], ◌∷◌, length, Option, Some, None, is_some}
use Rattle.std.specs.FinMap.{get}
use Rattle.mm_base.specs.Bytes.{part}
use Rattle.mm_ranges.specs.Overlay.{Image}
use Rattle.mm_ranges.specs.declared.limits.TheConstants.{NS_FILE}
use Rattle.mm_frames.specs.FileHeader.{file_header_of, file_header_bytes}
use Rattle.mm_links.specs.Links.{Place}
use Rattle.mm_extents.specs.Changes.{len_of}
use Rattle.mm_extents.specs.Files.{file_len, header_with}
use Rattle.mm_records.specs.Constants.{is_name}
use Rattle.mm_walk.specs.Questions.{Question}
use Rattle.mm_check.specs.ExtentChain.{nat_of, asked}

-- 1 to 16 whole MiB
abbrev pub is_ns_len : Option ℕ → Bool
is_ns_len None = false
is_ns_len (Some n) = (n % 1048576 == 0) && (nat_le 1048576 n && nat_le n 16777216)

-- where the unused rest begins, as a header says
abbrev pub unused_of : List ℕ → ℕ
unused_of header = nat_of (file_header_of header).unused.ofs

-- The header of data file k: its fields, zeros behind them, and an unused rest that begins behind the header and inside the file.
abbrev pub is_header : ℕ → List ℕ → Bool
is_header k header = is_name header (file_header_bytes (header_with k (unused_of header))) && (nat_le 8192 (unused_of header) && nat_le (unused_of header) (file_len k))

-- data file k with its length and header
abbrev pub is_data_file : ℕ → List ℕ → Bool
is_data_file k bytes = (length bytes == file_len k) && is_header k (part 0 8192 bytes)

-- none of n files from number k on is there
abbrev pub none_from : Image → ℕ → ℕ → Bool
none_from image k zero = true
none_from image k (suc n) = not (is_some (get image k)) && none_from image (suc k) n

-- File k is there and right; or it isn't the first, and none of the n behind it is there either.
abbrev pub file_right : Image → ℕ → ℕ → Option (List ℕ) → Bool
file_right image k n None = not (k == 0) && none_from image (suc k) n
file_right image k n (Some bytes) = is_data_file k bytes

-- n files from number k on
abbrev pub data_questions : Image → ℕ → ℕ → List (Question Place)
data_questions image k zero = []
data_questions image k (suc n) = asked (k, 0) (file_right image k n (get image k)) ∷ data_questions image (suc k) n

-- `.ns` is there with 1 to 16 whole MiB; files 0 up without a gap, with their lengths and headers
abbrev pub file_questions : Image → List (Question Place)
file_questions image = asked (NS_FILE, 0) (is_ns_len (len_of image NS_FILE)) ∷ data_questions image 0 8
