-- What the calls write.
use Rattle.std.specs.Prelude.{◌≡◌, ℕ, ℤ, pos, negsuc, ◌+◌, ◌-◌, ◌<◌, ◌≤◌, false, if◌then◌else◌, List, length, take, drop, Option, Some, None}
use Rattle.std.specs.FinMap.{get}
use Rattle.std.specs.Option.{option_map}
use Rattle.mm_ranges.specs.Places.{inserted}
use Rattle.mm_ranges.specs.Overlay.{Image, bytes_at, laid}
use Rattle.mm_ranges.specs.declared.limits.TheConstants.{NS_FILE}
use Rattle.mm_base.specs.Bytes.{part, overwritten}
use Rattle.mm_views.specs.State.{Drafting, weight_in}
use Rattle.mm_base.specs.Places.{null, place_made}
use Rattle.mm_base.specs.declared.place.DiskLoc.{DiskLoc}
use Rattle.mm_frames.specs.declared.rec_header.RecHeader.{RecHeader}
use Rattle.mm_frames.specs.declared.deleted_header.DeletedHeader.{DeletedHeader}
use Rattle.mm_links.specs.Links.{Place, same}
use Rattle.mm_extents.specs.Heap.{Cell, extent, live, deleted, Heap}

-- Bytes at a place of a file, declared and written: nothing else of the draft changes.
abbrev pub written : ℕ → ℕ → List ℕ → Drafting → Drafting
written file at bytes draft = record draft { image = laid file at bytes draft.image; declared = inserted (file, at, length bytes) draft.declared; is_reserved = false }

-- a place that a data file may have
pub record IsLow (p : Place) : Type 0 where
  pub file : p.0 < 8
  pub ofs : p.1 < 67108864

abbrev pub LowOr : Option Place → Type 0
LowOr None = Unit {0}
LowOr (Some p) = IsLow p

-- a place as eight bytes have it
abbrev pub loc : Place → DiskLoc
loc p = place_made (pos p.0) (pos p.1)

abbrev pub loc_or : Option Place → DiskLoc
loc_or None = null
loc_or (Some p) = loc p

-- a place in the same file as four bytes have it; -1 for none
abbrev pub ofs_or : Option Place → ℤ
ofs_or None = negsuc 0
ofs_or (Some p) = pos p.1

-- ---- one field of what stands at a place

abbrev pub next_set : ℤ → Cell → Cell
next_set z (extent h) = extent h
next_set z (live h room) = live (record h { next_ofs = z }) room
next_set z (deleted h rest) = deleted h rest

abbrev pub prev_set : ℤ → Cell → Cell
prev_set z (extent h) = extent h
prev_set z (live h room) = live (record h { prev_ofs = z }) room
prev_set z (deleted h rest) = deleted h rest

abbrev pub first_set : DiskLoc → Cell → Cell
first_set p (extent h) = extent (record h { first_record = p })
first_set p (live h room) = live h room
first_set p (deleted h rest) = deleted h rest

abbrev pub last_set : DiskLoc → Cell → Cell
last_set p (extent h) = extent (record h { last_record = p })
last_set p (live h room) = live h room
last_set p (deleted h rest) = deleted h rest

abbrev pub xnext_set : DiskLoc → Cell → Cell
xnext_set p (extent h) = extent (record h { xnext = p })
xnext_set p (live h room) = live h room
xnext_set p (deleted h rest) = deleted h rest

abbrev pub xprev_set : DiskLoc → Cell → Cell
xprev_set p (extent h) = extent (record h { xprev = p })
xprev_set p (live h room) = live h room
xprev_set p (deleted h rest) = deleted h rest

-- these bytes stand in the room of a record, from its byte k on
abbrev pub room_set : ℕ → List ℕ → Cell → Cell
room_set k bytes (extent h) = extent h
room_set k bytes (live h room) = live h (overwritten k bytes room)
room_set k bytes (deleted h rest) = deleted h rest

-- the block is deleted: its length and its extent stay, and so do the bytes behind its header
abbrev pub freed : DiskLoc → Cell → Cell
freed next (extent h) = extent h
freed next (live h room) = deleted (record { length_with_headers = h.length_with_headers; extent_ofs = h.extent_ofs; next_deleted = next }) room
freed next (deleted h rest) = deleted h rest

-- a deleted block has another link to the next of its list
abbrev pub deleted_next_set : DiskLoc → Cell → Cell
deleted_next_set z (extent h) = extent h
deleted_next_set z (live h room) = live h room
deleted_next_set z (deleted h rest) = deleted (record h { next_deleted = z }) rest

-- the block is a live record: its length and its extent stay, and so do the bytes behind its header
abbrev pub taken : ℤ → ℤ → Cell → Cell
taken next prev (extent h) = extent h
taken next prev (live h room) = live h room
taken next prev (deleted h rest) = live (record { length_with_headers = h.length_with_headers; extent_ofs = h.extent_ofs; next_ofs = next; prev_ofs = prev }) rest

-- what a record is without what stands behind its front r bytes, and what stands there: a deleted block
abbrev pub front_of : ℕ → RecHeader → List ℕ → Cell
front_of r h room = live (record h { length_with_headers = pos r }) (take (r - 16) room)

abbrev pub rest_of : ℕ → DeletedHeader → List ℕ → Cell
rest_of r d room = deleted d (drop r room)

-- the place so many bytes behind another
abbrev pub behind_of : Place → ℕ → Place
behind_of p r = (p.0, p.1 + r)

-- two cells at their places, whatever stood there
abbrev pub put_two : Place → Cell → Place → Cell → Heap → Heap
put_two p c b d heap q = if same p q then Some c else (if same b q then Some d else heap q)

-- n bytes at a place of a file are declared and written, whatever they are
pub record IsWritten (file at n : ℕ) (old new : Drafting) : Type 0 where
  pub bytes : List ℕ
  pub long : length bytes ≡ n
  pub is : new ≡ written file at bytes old

-- What is declared and made weighs at most n more.
abbrev pub DeclaresAtMost : ℕ → Drafting → Drafting → Type 0
DeclaresAtMost n old new = weight_in new.made new.declared ≤ weight_in old.made old.declared + n

-- how long a file is, where it is there
abbrev pub len_of : Image → ℕ → Option ℕ
len_of image file = option_map length (get image file)

-- The files are as long as they were, and the `.ns` file and the headers of the data files are as they were.
pub record KeepsHeaders (old new : Image) : Type 0 where
  pub lengths : (file : ℕ) → len_of new file ≡ len_of old file
  pub ns : bytes_at new NS_FILE ≡ bytes_at old NS_FILE
  pub headers : (file : ℕ) → part 0 8192 (bytes_at new file) ≡ part 0 8192 (bytes_at old file)
