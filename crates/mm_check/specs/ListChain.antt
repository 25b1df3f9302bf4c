-- The lists of deleted blocks, as the files' bytes have them.
use Rattle.std.specs.Prelude.{◌≡◌, ℕ, ℤ, pos, negsuc, ◌+◌, ◌≤◌, Bool, true, false, ◌&&◌, ◌==◌, nat_le, if◌then◌else◌, List, length, Option, Some, None}
use Rattle.mm_base.specs.Bytes.{part}
use Rattle.mm_frames.specs.Texts.{text_in}
use Rattle.mm_base.specs.declared.place.DiskLoc.{DiskLoc}
use Rattle.mm_ranges.specs.Overlay.{Image, bytes_at}
use Rattle.mm_frames.specs.DeletedHeader.{deleted_header_of}
use Rattle.mm_frames.specs.declared.deleted_header.DeletedHeader.{DeletedHeader}
use Rattle.mm_frames.specs.declared.extent_header.ExtentHeader.{ExtentHeader}
use Rattle.mm_links.specs.Links.{Place, has}
use Rattle.mm_extents.specs.Heap.{Heap, deleted, extent}
use Rattle.mm_extents.specs.Changes.{loc_or}
use Rattle.mm_records.specs.Shape.{list_for}
use Rattle.mm_walk.specs.Walk.{Reading, IsWhole}
use Rattle.mm_walk.specs.Listed.{ReadsList}
use Rattle.mm_walk.specs.declared.walk.Link.{Link}
use Rattle.mm_check.specs.RecordChain.{place_link, is_long}
use Rattle.mm_check.specs.ExtentChain.{nat_of, ext_size}

abbrev pub del_at : Image → Place → DeletedHeader
del_at image p = deleted_header_of (part p.1 16 (bytes_at image p.0))

-- A deleted block lies with its header in an extent of the namespace, is long enough, names the extent, and its length is one of list i.
pub record IsDeletedAt (image : Image) (heap : Heap) (len : Place → ℕ) (name : List ℕ) (i : ℕ) (p : Place) : Type 0 where
  pub a : ℕ
  pub h : ExtentHeader
  pub is : heap (p.0, a) ≡ Some (extent h)
  pub named : text_in h.namespace ≡ name
  pub from : a + 176 ≤ p.1
  pub to : p.1 + 16 ≤ a + len (p.0, a)
  pub n : ℕ
  pub long : (del_at image p).length_with_headers ≡ pos n
  pub some : 32 ≤ n
  pub of_extent : (del_at image p).extent_ofs ≡ pos a
  pub right_list : list_for n ≡ i

-- Each list of each namespace is whole, the deleted blocks are those of the lists, and what stands at them is what the bytes have.
pub record ListsFound (image : Image) (heap : Heap) (lists : List ℕ → ℕ → List Place) : Type 0 where
  pub len : Place → ℕ
  pub reading : List ℕ → ℕ → Reading
  pub seen : List ℕ → ℕ → List Place
  pub reads : (name : List ℕ) (i : ℕ) → ReadsList (reading name i) loc_or (IsDeletedAt image heap len name i) (λ p. (del_at image p).next_deleted) (place_link image)
  pub whole : (name : List ℕ) (i : ℕ) → IsWhole (reading name i) (seen name i) (lists name i)
  pub rest : Place → List ℕ
  pub there : (name : List ℕ) (i : ℕ) (p : Place) → has (lists name i) p ≡ true → (heap p ≡ Some (deleted (del_at image p) (rest p))) × ((del_at image p).length_with_headers ≡ pos (16 + length (rest p)))
  pub only : (p : Place) (h : DeletedHeader) (r : List ℕ) → heap p ≡ Some (deleted h r) → (name : List ℕ) × ((i : ℕ) × (has (lists name i) p ≡ true))

-- ---- as a test

-- Block p lies in the extent of its file at a, which is one of the namespace's, is long enough, and its length is one of list i.
abbrev pub lies_in_own : Image → List Place → Place → ℤ → Bool
lies_in_own image own p (pos a) = has own (p.0, a) && (nat_le (a + 176) p.1 && nat_le (p.1 + 16) (a + ext_size image (p.0, a)))
lies_in_own image own p (negsuc n) = false

abbrev pub is_of_list : ℕ → ℤ → Bool
is_of_list i z = is_long z && (list_for (nat_of z) == i)

-- the same, and its header in its file, with the places of the namespace's extents
abbrev pub is_deleted : Image → List Place → ℕ → Place → Bool
is_deleted image own i p = nat_le (p.1 + 16) (length (bytes_at image p.0)) && (lies_in_own image own p (del_at image p).extent_ofs && is_of_list i (del_at image p).length_with_headers)

abbrev pub read_deleted : Image → List Place → ℕ → Option Place → Place → Option Link
read_deleted image own i before p = if is_deleted image own i p then Some (place_link image (del_at image p).next_deleted) else None

-- list i of a node, which begins there
abbrev pub list_reading : Image → List Place → ℕ → Place → DiskLoc → Reading
list_reading image own i node head = record { head = place_link image head; read = read_deleted image own i; closes = λ last. true; home = node; tail = node }
