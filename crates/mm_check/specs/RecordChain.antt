-- The chain of an extent's live records, as the files' bytes have it.
use Rattle.std.specs.Prelude.{◌≡◌, ◌≢◌, ℕ, zero, suc, ℤ, pos, negsuc, ◌+◌, ◌<◌, ◌≤◌, ◌⊎◌, Bool, true, false, ◌&&◌, ◌==◌, nat_lt, nat_le, if◌then◌else◌, List, [], length, Option, Some, None}
use Rattle.mm_base.specs.Bytes.{part}
use Rattle.mm_base.specs.declared.place.DiskLoc.{DiskLoc}
use Rattle.mm_ranges.specs.Overlay.{Image, bytes_at}
use Rattle.mm_frames.specs.Texts.{text_in}
use Rattle.mm_frames.specs.RecHeader.{rec_header_of}
use Rattle.mm_frames.specs.declared.rec_header.RecHeader.{RecHeader}
use Rattle.mm_frames.specs.declared.extent_header.ExtentHeader.{ExtentHeader}
use Rattle.mm_links.specs.Links.{Place, has}
use Rattle.mm_extents.specs.Heap.{Heap, live, extent}
use Rattle.mm_walk.specs.declared.walk.Link.{Link}
use Rattle.mm_walk.specs.declared.walk.Link.TheVariants.{End, To, Outside}
use Rattle.mm_walk.specs.Walk.{Reading, IsWhole}

abbrev pub rec_at : Image → Place → RecHeader
rec_at image p = rec_header_of (part p.1 16 (bytes_at image p.0))

-- ---- where a link leads

-- to an offset of a file
abbrev pub to_offset : Image → ℕ → ℕ → Link
to_offset image file a = if nat_lt a (length (bytes_at image file)) then To (file, a) else Outside

-- by the link of a record; -1 ends the chain
abbrev pub ofs_link : Image → ℕ → ℤ → Link
ofs_link image file (pos a) = to_offset image file a
ofs_link image file (negsuc zero) = End
ofs_link image file (negsuc (suc n)) = Outside

-- by the two numbers of a place; one in no file leads outside
abbrev pub link_in : Image → ℤ → ℤ → Link
link_in image (pos file) (pos a) = if nat_lt file 8 then to_offset image file a else Outside
link_in image (pos file) (negsuc n) = Outside
link_in image (negsuc zero) ofs = End
link_in image (negsuc (suc n)) ofs = Outside

abbrev pub place_link : Image → DiskLoc → Link
place_link image d = link_in image d.file d.ofs

-- ---- a record of the extent

abbrev pub is_pos : ℤ → ℕ → Bool
is_pos (pos m) n = m == n
is_pos (negsuc m) n = false

abbrev pub is_long : ℤ → Bool
is_long (pos n) = nat_le 32 n
is_long (negsuc n) = false

-- the link names this place, or none
abbrev pub names_ofs : ℤ → Option Place → Bool
names_ofs (pos a) (Some p) = a == p.1
names_ofs (negsuc n) (Some p) = false
names_ofs (pos a) None = false
names_ofs (negsuc zero) None = true
names_ofs (negsuc (suc n)) None = false

-- A live record lies in the extent with its header, is long enough and names the extent.
pub record IsRecordAt (image : Image) (e : Place) (len : ℕ) (p : Place) : Type 0 where
  pub file : p.0 ≡ e.0
  pub from : e.1 + 176 ≤ p.1
  pub to : p.1 + 16 ≤ e.1 + len
  pub n : ℕ
  pub long : (rec_at image p).length_with_headers ≡ pos n
  pub some : 32 ≤ n
  pub of_extent : (rec_at image p).extent_ofs ≡ pos e.1

-- the same as a test
abbrev pub is_record : Image → Place → ℕ → Place → Bool
is_record image e len p = (p.0 == e.0) && (nat_le (e.1 + 176) p.1 && (nat_le (p.1 + 16) (e.1 + len) && (is_long (rec_at image p).length_with_headers && is_pos (rec_at image p).extent_ofs e.1)))

abbrev pub read_record : Image → Place → ℕ → Option Place → Place → Option Link
read_record image e len before p = if is_record image e len p && names_ofs (rec_at image p).prev_ofs before then Some (ofs_link image e.0 (rec_at image p).next_ofs) else None

abbrev pub is_minus_one : ℤ → Bool
is_minus_one (pos n) = false
is_minus_one (negsuc zero) = true
is_minus_one (negsuc (suc n)) = false

-- the place is this one, or null
abbrev pub names_place : DiskLoc → Option Place → Bool
names_place d (Some p) = is_pos d.file p.0 && is_pos d.ofs p.1
names_place d None = is_minus_one d.file

-- the reading of an extent's chain
pub record ReadsRecords (image : Image) (e : Place) (len : ℕ) (h : ExtentHeader) (r : Reading) : Type 0 where
  pub head : r.head ≡ place_link image h.first_record
  pub read : (before : Option Place) (p : Place) → r.read before p ≡ read_record image e len before p
  pub closes : (last : Option Place) → r.closes last ≡ names_place h.last_record last
  pub home : r.home ≡ e
  pub tail : r.tail ≡ e

-- ---- what the phases found

-- an extent in the files that isn't a free one, and its length
pub record IsExtentAt (image : Image) (free : List ℕ) (heap : Heap) (e : Place) (len : ℕ) : Type 0 where
  pub h : ExtentHeader
  pub is : heap e ≡ Some (extent h)
  pub isnt_free : text_in h.namespace ≢ free
  pub inside : e.1 + len ≤ length (bytes_at image e.0)

-- The chain of each extent of a namespace is whole, the live records are those of the chains, and what stands at them is what the bytes have.
pub record RecordsFound (image : Image) (free : List ℕ) (heap : Heap) (records : Place → List Place) : Type 0 where
  pub len : Place → ℕ
  pub reading : Place → Reading
  pub seen : Place → List Place
  pub extents : (e : Place) → (records e ≡ []) ⊎ IsExtentAt image free heap e (len e)
  pub reads : (e : Place) (h : ExtentHeader) → heap e ≡ Some (extent h) → text_in h.namespace ≢ free → ReadsRecords image e (len e) h (reading e) × (e.1 + len e ≤ length (bytes_at image e.0))
  pub whole : (e : Place) (h : ExtentHeader) → heap e ≡ Some (extent h) → text_in h.namespace ≢ free → IsWhole (reading e) (seen e) (records e)
  pub room : Place → List ℕ
  pub there : (e p : Place) → has (records e) p ≡ true → heap p ≡ Some (live (rec_at image p) (room p))
  pub only : (p : Place) (h : RecHeader) (r : List ℕ) → heap p ≡ Some (live h r) → (e : Place) × (has (records e) p ≡ true)

-- ---- as the code has it

-- the chain of an extent at e, of this length, with these ends
abbrev pub records_reading : Image → Place → ℕ → DiskLoc → DiskLoc → Reading
records_reading image e len first last = record { head = place_link image first; read = read_record image e len; closes = names_place last; home = e; tail = e }

-- the extent lies in a data file
pub record LiesIn (image : Image) (file ofs len : ℕ) : Type 0 where
  pub data_file : file < 8
  pub low : ofs + len ≤ 67108864
  pub inside : ofs + len ≤ length (bytes_at image file)
