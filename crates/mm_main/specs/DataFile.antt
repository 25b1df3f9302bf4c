-- The data file of one collection, as it is written once (MongoDB 2.6, MMAPv1: a file's header, one extent, its records).
use Rattle.std.specs.Prelude.{◌≡◌, ℕ, ℤ, pos, negsuc, ◌+◌, ◌-◌, ◌≤◌, ◌==◌, List, [], ◌∷◌, ◌++◌, length, codes}
use Rattle.std.specs.Bool.{MatchBool}
use Rattle.mm_base.specs.Bytes.{part, padded}
use Rattle.mm_base.specs.Places.{place_made, null}
use Rattle.mm_base.specs.Tables.{HasAll}
use Rattle.mm_base.specs.declared.place.DiskLoc.{DiskLoc}
use Rattle.mm_frames.specs.declared.file_header.FileHeader.{FileHeader}
use Rattle.mm_frames.specs.declared.extent_header.ExtentHeader.{ExtentHeader}
use Rattle.mm_frames.specs.declared.rec_header.RecHeader.{RecHeader}
use Rattle.mm_frames.specs.declared.deleted_header.DeletedHeader.{DeletedHeader}
use Rattle.mm_frames.specs.FileHeader.{file_header_table}
use Rattle.mm_frames.specs.ExtentHeader.{extent_header_table}
use Rattle.mm_frames.specs.RecHeader.{rec_header_table}
use Rattle.mm_frames.specs.DeletedHeader.{deleted_header_table}
use Rattle.mm_main.specs.Room.{file_len, extent_at, extent_len, first_at, request, block_len}

-- an offset of the file number 0
abbrev pub at_file_0 : ℤ → DiskLoc
at_file_0 ofs = place_made (pos 0) ofs

-- ---- the frames

-- the file's header; what no extent has begins at an offset
abbrev pub header_with : ℕ → FileHeader
header_with unused = record { version = 4; version_minor = 5; file_length = file_len; unused = at_file_0 (pos unused); unused_length = file_len - unused }

-- the name of a collection's namespace, in its field of the extent
abbrev pub namespace_of : List ℕ → List ℕ
namespace_of collection = padded 128 (codes "test." ++ collection)

-- the header of the one extent, with its last record
abbrev pub extent_with : List ℕ → ℤ → ExtentHeader
extent_with collection last = record {
  magic = 0x41424344;
  my_loc = at_file_0 (pos extent_at);
  xnext = null;
  xprev = null;
  namespace = namespace_of collection;
  len = pos extent_len;
  first_record = at_file_0 (pos first_at);
  last_record = at_file_0 last;
}

-- the header of a record
abbrev pub linked : ℕ → ℤ → ℤ → RecHeader
linked len prev next = record { length_with_headers = pos len; extent_ofs = pos extent_at; next_ofs = next; prev_ofs = prev }

-- the header of the block that takes the rest of the extent
abbrev pub rest_from : ℕ → DeletedHeader
rest_from at = record { length_with_headers = pos (file_len - at); extent_ofs = pos extent_at; next_deleted = null }

-- ---- what stands in a file

abbrev pub HasFileHeader : List ℕ → ℕ → Type 0
HasFileHeader file unused = HasAll (part 0 8192 file) (file_header_table (header_with unused))

abbrev pub HasExtentHeader : List ℕ → List ℕ → ℤ → Type 0
HasExtentHeader file collection last = HasAll (part extent_at 176 file) (extent_header_table (extent_with collection last))

-- a record's header and its payload
pub record IsRecord (file : List ℕ) (at len : ℕ) (prev next : ℤ) (payload : List ℕ) : Type 0 where
  pub header : HasAll (part at 16 file) (rec_header_table (linked len prev next))
  pub holds : part (at + 16) (length payload) file ≡ payload

-- the rest of the extent is one deleted block
abbrev pub IsDeletedBlock : List ℕ → ℕ → Type 0
IsDeletedBlock file at = HasAll (part at 16 file) (deleted_header_table (rest_from at))

-- what is left is one deleted block, or nothing
abbrev pub IsRest : List ℕ → ℕ → Type 0
IsRest file at = MatchBool (at == file_len) (Unit {0}) (IsDeletedBlock file at)

-- the link to the block behind one, or -1 where it is the last
abbrev pub link_to : ℕ → List (List ℕ) → ℤ
link_to at [] = negsuc 0
link_to at (payload ∷ payloads) = pos at

-- The records stand back to back from an offset on, each linked with its neighbours. What is left is one deleted block.
abbrev pub AreRecords : List ℕ → ℕ → ℤ → List (List ℕ) → Type 0
AreRecords file at prev [] = IsRest file at
AreRecords file at prev (payload ∷ payloads) =
    IsRecord file at (block_len at (length payload)) prev (link_to (at + block_len at (length payload)) payloads) payload
    × AreRecords file (at + block_len at (length payload)) (pos at) payloads

-- the offset of the last record, where the one before the first lies at another
abbrev pub last_from : ℕ → ℤ → List (List ℕ) → ℤ
last_from at prev [] = prev
last_from at prev (payload ∷ payloads) = last_from (at + block_len at (length payload)) (pos at) payloads

-- each payload has room behind those before it
abbrev pub Fit : ℕ → List (List ℕ) → Type 0
Fit at [] = Unit {0}
Fit at (payload ∷ payloads) = (request (length payload) ≤ file_len - at) × Fit (at + block_len at (length payload)) payloads

-- The file holds these payloads of the collection. Without any, it has only its header.
abbrev pub Holds : List ℕ → List ℕ → List (List ℕ) → Type 0
Holds file collection [] = HasFileHeader file extent_at
Holds file collection (payload ∷ payloads) =
    HasFileHeader file file_len × HasExtentHeader file collection (last_from first_at (negsuc 0) (payload ∷ payloads)) × AreRecords file first_at (negsuc 0) (payload ∷ payloads)

-- the file is written so, each payload where it has room
pub record IsFile (collection : List ℕ) (payloads : List (List ℕ)) (file : List ℕ) : Type 0 where
  pub size : length file ≡ file_len
  pub fit : Fit first_at payloads
  pub holds : Holds file collection payloads
