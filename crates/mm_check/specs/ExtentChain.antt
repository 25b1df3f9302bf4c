-- The extents of a data file, one behind the other, and the chain of a namespace's extents, as the files' bytes have them.
use Rattle.std.specs.Prelude.{◌≡◌, ℕ, zero, suc, ℤ, pos, negsuc, ◌+◌, ◌%◌, ◌<◌, ◌≤◌, ◌⊎◌, Bool, true, false, ◌&&◌, ◌==◌, nat_le, if◌then◌else◌, List, [], length, map, Option, Some, None}
use Rattle.mm_base.specs.Bytes.{part}
use Rattle.mm_base.specs.declared.place.DiskLoc.{DiskLoc}
use Rattle.mm_ranges.specs.Overlay.{Image, bytes_at}
use Rattle.mm_frames.specs.Texts.{text_in}
use Rattle.mm_frames.specs.ExtentHeader.{extent_header_of}
use Rattle.mm_frames.specs.declared.extent_header.ExtentHeader.{ExtentHeader}
use Rattle.mm_links.specs.Links.{Place, has}
use Rattle.mm_extents.specs.Heap.{Heap, extent}
use Rattle.mm_extents.specs.Changes.{loc}
use Rattle.mm_records.specs.Constants.{is_name}
use Rattle.mm_walk.specs.declared.walk.Link.{Link}
use Rattle.mm_walk.specs.declared.walk.Link.TheVariants.{End, To, Outside}
use Rattle.std.specs.BTreeSet.{BTreeSet}
use Rattle.mm_walk.specs.Walk.{Reading, IsWhole, Knows}
use Rattle.mm_walk.specs.Tiles.{Block}
use Rattle.mm_walk.specs.Questions.{Question}
use Rattle.mm_check.specs.RecordChain.{place_link, names_place}

abbrev pub ext_at : Image → Place → ExtentHeader
ext_at image p = extent_header_of (part p.1 176 (bytes_at image p.0))

-- a length that isn't negative
abbrev pub nat_of : ℤ → ℕ
nat_of (pos n) = n
nat_of (negsuc n) = 0

-- the same where it isn't negative
abbrev pub nat_in : ℤ → Option ℕ
nat_in (pos n) = Some n
nat_in (negsuc n) = None

-- how long the extent at a place is, as its header says
abbrev pub ext_size : Image → Place → ℕ
ext_size image p = nat_of (ext_at image p).len

-- ---- phase 3: file by file the extents from 8192 to unused: magic, myLoc, length a multiple of 4096 of at least 4096 and inside

-- An extent with the magic word, its own place, and whole pages of 4096 bytes, at least one, lies before the file's unused rest.
pub record IsExtentHere (image : Image) (unused : ℕ) (p : Place) : Type 0 where
  pub header : p.1 + 176 ≤ unused
  pub magic : (ext_at image p).magic ≡ 0x41424344
  pub own_place : (ext_at image p).my_loc ≡ loc p
  pub n : ℕ
  pub long : (ext_at image p).len ≡ pos n
  pub pages : n % 4096 ≡ 0
  pub some : 4096 ≤ n
  pub inside : p.1 + n ≤ unused

-- the length is of whole pages, at least one
abbrev pub is_pages : ℤ → Bool
is_pages (pos n) = (n % 4096 == 0) && nat_le 4096 n
is_pages (negsuc n) = false

-- the same as a test
abbrev pub is_extent_here : Image → ℕ → Place → Bool
is_extent_here image unused p = nat_le (p.1 + 176) unused && (((ext_at image p).magic == 0x41424344) && (names_place (ext_at image p).my_loc (Some p) && (is_pages (ext_at image p).len && nat_le (p.1 + ext_size image p) unused)))

-- where an extent ends, the next begins, or the unused rest
abbrev pub leads_on : ℕ → ℕ → ℕ → Link
leads_on file unused at = if at == unused then End else To (file, at)

abbrev pub read_extent_of : Image → ℕ → ℕ → Option Place → Place → Option Link
read_extent_of image file unused before p = if (p.0 == file) && is_extent_here image unused p then Some (leads_on file unused (p.1 + ext_size image p)) else None

-- the extents of a file; the file's header, which says where they end, is right
abbrev pub file_reading : Image → ℕ → ℕ → Reading
file_reading image file unused = record { head = leads_on file unused 8192; read = read_extent_of image file unused; closes = λ last. true; home = (file, 0); tail = (file, 0) }

-- extents as blocks of their file
abbrev pub areas : Image → List Place → List Block
areas image ps = map (λ p. (p.1, ext_size image p)) ps

-- ---- phase 4: by node its extent chain: places of phase 3, namespace, xprev, none seen before, lastExtent

-- an extent of phase 3 with the name, in a field of 128 bytes
pub record IsNamedExtent (image : Image) (all : List Place) (field : List ℕ) (p : Place) : Type 0 where
  pub there : has all p ≡ true
  pub named : (ext_at image p).namespace ≡ field

-- the same as a test
abbrev pub is_named_extent : Image → List Place → List ℕ → Place → Bool
is_named_extent image all field p = has all p && is_name (ext_at image p).namespace field

abbrev pub read_chained : Image → List Place → List ℕ → Option Place → Place → Option Link
read_chained image all field before p = if is_named_extent image all field p && names_place (ext_at image p).xprev before then Some (place_link image (ext_at image p).xnext) else None

-- A head is right where it is a place of phase 3, or null. A wrong one is at fault itself, so it leads outside.
abbrev pub head_by : List Place → ℤ → ℤ → Link
head_by all (pos file) (pos a) = if has all (file, a) then To (file, a) else Outside
head_by all (pos file) (negsuc n) = Outside
head_by all (negsuc zero) ofs = End
head_by all (negsuc (suc n)) ofs = Outside

abbrev pub extent_head : List Place → DiskLoc → Link
extent_head all d = head_by all d.file d.ofs

-- the chain of a node's extents, which have its name in their field, and whose ends its details name
abbrev pub chain_reading : Image → List Place → List ℕ → Place → DiskLoc → DiskLoc → Reading
chain_reading image all field node first last = record { head = extent_head all first; read = read_chained image all field; closes = names_place last; home = node; tail = node }

-- ---- phase 5: extents that no chain has, by place

-- a question
abbrev pub asked : Place → Bool → Question Place
asked p holds = record { at = p; holds = holds }

-- of each extent, whether it is on a chain
abbrev pub lost_questions : List Place → List Place → List (Question Place)
lost_questions all chained = map (λ p. asked p (has chained p)) all

-- ---- as the code has it

-- the extents of a data file end there
pub record EndsIn (image : Image) (file unused : ℕ) : Type 0 where
  pub data_file : file < 8
  pub low : unused ≤ 67108864
  pub inside : unused ≤ length (bytes_at image file)

-- an extent lies in a data file, with its header
pub record InFile (image : Image) (p : Place) : Type 0 where
  pub data_file : p.0 < 8
  pub low : p.1 < 67108864
  pub inside : p.1 + 176 ≤ length (bytes_at image p.0)
  pub short : p.1 + ext_size image p ≤ 67108864
  pub whole : p.1 + ext_size image p ≤ length (bytes_at image p.0)

-- the set has the keys of these extents, whose headers lie in data files
pub record KnowsExtents (image : Image) (set : BTreeSet ℕ) (places : List Place) : Type 0 where
  pub known : Knows set places
  pub inside : (p : Place) → has places p ≡ true → InFile image p

-- ---- what the phases found

-- these are all extents of the node's chain, which have the name
pub record IsNodeChain (image : Image) (all : List Place) (name : List ℕ) (ps : List Place) : Type 0 where
  pub field : List ℕ
  pub node : Place
  pub first : DiskLoc
  pub last : DiskLoc
  pub seen : List Place
  pub whole : IsWhole (chain_reading image all field node first last) seen ps
  pub spells : text_in field ≡ name

-- The extents are those of phase 3, what stands at them is what the bytes have, each node's chain is whole, and each extent is on one.
pub record ExtentsFound (image : Image) (heap : Heap) (extents : List ℕ → List Place) : Type 0 where
  pub all : List Place
  pub inside : (p : Place) → has all p ≡ true → InFile image p
  pub there : (p : Place) → has all p ≡ true → heap p ≡ Some (extent (ext_at image p))
  pub only : (p : Place) (h : ExtentHeader) → heap p ≡ Some (extent h) → has all p ≡ true
  pub chain : (name : List ℕ) → (extents name ≡ []) ⊎ IsNodeChain image all name (extents name)
  pub none_lost : (p : Place) → has all p ≡ true → (name : List ℕ) × (has (extents name) p ≡ true)
