-- Pieces laid over an image. The last that covers a byte decides.
use Rattle.std.specs.Prelude.{◌≡◌, ℕ, ◌+◌, ◌-◌, ◌<◌, ◌≤◌, max, Bool, false, ◌||◌, if◌then◌else◌, ◌==◌, List, [], ◌∷◌, length, replicate, slice_index, Option, Some, None, unwrap_or, is_some}
use Rattle.std.specs.Option.{option_or}
use Rattle.std.specs.declared.cmp.Ordering.{Ordering}
use Rattle.std.specs.Ordering.{nat_cmp}
use Rattle.std.specs.FinMap.{FinMap, get, insert}
use Rattle.mm_bytes.specs.Files.{overwritten, read_from}
use Rattle.mm_ranges.specs.Places.{Range, is_in, is_covered}
use Rattle.mm_ranges.specs.declared.part.Piece.{Piece}
use Rattle.mm_ranges.specs.declared.part.Made.{Made}
use Rattle.mm_ranges.specs.declared.part.Part.{Part}

-- files by number
abbrev pub Image : Type 0
Image = FinMap nat_cmp (List ℕ)

-- the bytes of a file; none of an absent one
abbrev pub bytes_at : {K : Type 0} {R : K → K → Ordering} → FinMap R (List ℕ) → K → List ℕ
bytes_at image file = unwrap_or (get image file) []

-- Bytes laid over a file, whether files go by number or by name. An absent file is made.
abbrev pub laid : {K : Type 0} {R : K → K → Ordering} → K → ℕ → List ℕ → FinMap R (List ℕ) → FinMap R (List ℕ)
laid file at bytes image = insert image file (overwritten at bytes (bytes_at image file))

-- pieces laid over, one after another
abbrev pub laid_over : List Piece → Image → Image
laid_over [] image = image
laid_over (piece ∷ pieces) image = laid_over pieces (laid piece.file piece.at piece.bytes image)

-- with files of zeros made
abbrev pub with_made : List Made → Image → Image
with_made [] image = image
with_made (made ∷ more) image = with_made more (insert image made.file (replicate made.len 0))

-- a part laid over
abbrev pub over : Part → Image → Image
over part image = laid_over part.pieces (with_made part.made image)

-- parts laid over, the oldest first
abbrev pub over_all : List Part → Image → Image
over_all [] image = image
over_all (part ∷ parts) image = over_all parts (over part image)

-- the byte of a file at an offset; 0 past its end
abbrev pub byte_at : Image → ℕ → ℕ → ℕ
byte_at image file at = slice_index (bytes_at image file) at

-- the byte that the last of the pieces which have a place puts there
abbrev pub last_byte : List Piece → ℕ → ℕ → Option ℕ
last_byte [] file at = None
last_byte (piece ∷ pieces) file at =
    option_or (last_byte pieces file at) (if is_in file at (piece.file, piece.at, length piece.bytes) then Some (slice_index piece.bytes (at - piece.at)) else None)

-- the last end of the pieces in a file
abbrev pub last_end : List Piece → ℕ → ℕ
last_end [] file = 0
last_end (piece ∷ pieces) file = max (if piece.file == file then piece.at + length piece.bytes else 0) (last_end pieces file)

-- one of the pieces is in the file
abbrev pub has_piece : List Piece → ℕ → Bool
has_piece [] file = false
has_piece (piece ∷ pieces) file = piece.file == file || has_piece pieces file

-- Pieces laid over an image, place by place: the last piece that has a place decides its byte, a piece past the end
-- lengthens its file with zeros in the gap, and an absent file is made.
pub record LiesOver (pieces : List Piece) (image new : Image) : Type 0 where
  pub bytes : (file at : ℕ) → byte_at new file at ≡ unwrap_or (last_byte pieces file at) (byte_at image file at)
  pub lengths : (file : ℕ) → length (bytes_at new file) ≡ max (length (bytes_at image file)) (last_end pieces file)
  pub files : (file : ℕ) → is_some (get new file) ≡ (has_piece pieces file || is_some (get image file))

-- the bytes that an image has at a range
abbrev pub piece_of : Image → Range → Piece
piece_of image r = record { file = r.0; at = r.1; bytes = read_from r.1 r.2 (bytes_at image r.0) }

-- the bytes that an image has at each range
abbrev pub pieces_of : List Range → Image → List Piece
pieces_of [] image = []
pieces_of (r ∷ rs) image = piece_of image r ∷ pieces_of rs image

-- the places of pieces
abbrev pub ranges_of : List Piece → List Range
ranges_of [] = []
ranges_of (piece ∷ pieces) = (piece.file, piece.at, length piece.bytes) ∷ ranges_of pieces

-- the same file, but at the places where the test is true
abbrev pub FileSame : (ℕ → Bool) → Option (List ℕ) → Option (List ℕ) → Type 0
FileSame p None None = Unit {0}
FileSame p None (Some b) = ⊥
FileSame p (Some a) None = ⊥
FileSame p (Some a) (Some b) = (length a ≡ length b) × ((i : ℕ) → p i ≡ false → slice_index a i ≡ slice_index b i)

-- the same files, but at the places of these ranges
abbrev pub SameOutside : List Range → Image → Image → Type 0
SameOutside rs a b = (file : ℕ) → FileSame (is_covered rs file) (get a file) (get b file)

-- the range lies inside its file
abbrev pub IsInside : Image → Range → Type 0
IsInside image r = r.1 + r.2 ≤ length (bytes_at image r.0)

-- each range has a place, and lies inside its file
abbrev pub AreInside : Image → List Range → Type 0
AreInside image [] = Unit {0}
AreInside image (r ∷ rs) = (0 < r.2) × IsInside image r × AreInside image rs
