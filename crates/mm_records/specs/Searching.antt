-- The search for a deleted block.
use Rattle.std.specs.Prelude.{◌≡◌, ℕ, pos, ◌+◌, ◌<◌, ◌≤◌, true, List, ◌∷◌, ◌++◌, length, Some}
use Rattle.mm_base.specs.Bytes.{part}
use Rattle.mm_base.specs.declared.place.DiskLoc.{DiskLoc}
use Rattle.mm_ranges.specs.Overlay.{Image, bytes_at}
use Rattle.mm_frames.specs.DeletedHeader.{deleted_header_of}
use Rattle.mm_frames.specs.declared.deleted_header.DeletedHeader.{DeletedHeader}
use Rattle.mm_links.specs.Links.{Place, has, once, first_of, last_of, next_in}
use Rattle.mm_extents.specs.Heap.{deleted, Heap}
use Rattle.mm_extents.specs.Changes.{loc_or}
use Rattle.mm_records.specs.Shape.{Shape, list_for}

-- ---- a list as the files have it

abbrev pub header_at : Image → Place → DeletedHeader
header_at image p = deleted_header_of (part p.1 16 (bytes_at image p.0))

-- a block of the list
pub record IsListed (image : Image) (list : List Place) (p : Place) : Type 0 where
  pub file : p.0 < 8
  pub low : p.1 < 67108864
  pub inside : p.1 + 16 ≤ length (bytes_at image p.0)
  pub len : ℕ
  pub len_is : (header_at image p).length_with_headers ≡ pos len
  pub next_is : (header_at image p).next_deleted ≡ loc_or (next_in list p)

pub record IsList (image : Image) (list : List Place) (head : DiskLoc) : Type 0 where
  pub head_is : head ≡ loc_or (first_of list)
  pub no_twice : once list ≡ true
  pub blocks : (p : Place) → has list p ≡ true → IsListed image list p

-- each block of these has fewer bytes
abbrev pub AllShort : Image → ℕ → List Place → Type 0
AllShort image r ps = (p : Place) (n : ℕ) → has ps p ≡ true → (header_at image p).length_with_headers ≡ pos n → n < r

-- the first block of the list that has as many bytes, and where the one before it is
pub record IsFirstFit (image : Image) (list : List Place) (r : ℕ) (link : DiskLoc) (at : Place) : Type 0 where
  pub before : List Place
  pub after : List Place
  pub is : list ≡ before ++ at ∷ after
  pub short : AllShort image r before
  pub long : (n : ℕ) → (header_at image at).length_with_headers ≡ pos n → r ≤ n
  pub link_is : link ≡ loc_or (last_of before)

-- how far a walk has come
pub record IsWalked (image : Image) (list : List Place) (r steps : ℕ) (link at : DiskLoc) : Type 0 where
  pub before : List Place
  pub rest : List Place
  pub is : list ≡ before ++ rest
  pub count : length before ≡ steps
  pub here : at ≡ loc_or (first_of rest)
  pub short : AllShort image r before
  pub link_is : link ≡ loc_or (last_of before)

-- ---- the blocks of a namespace

-- each of these that is a deleted block has fewer bytes
abbrev pub AllShorter : Heap → ℕ → List Place → Type 0
AllShorter heap r ps = (p : Place) (h : DeletedHeader) (rest : List ℕ) → has ps p ≡ true → heap p ≡ Some (deleted h rest) → 16 + length rest < r

-- no deleted block of the namespace has r bytes
abbrev pub NoBlock : Shape → List ℕ → ℕ → Type 0
NoBlock s name r = (i : ℕ) → AllShorter s.heap r (s.lists name i)

-- The block is the first of r bytes in the first list that has one, from the list of r bytes on; and where the one before it in its list is.
pub record IsChosen (s : Shape) (name : List ℕ) (r list : ℕ) (link : DiskLoc) (p : Place) : Type 0 where
  pub from : list_for r ≤ list
  pub to : list < 19
  pub lower : (i : ℕ) → list_for r ≤ i → i < list → AllShorter s.heap r (s.lists name i)
  pub before : List Place
  pub after : List Place
  pub is : s.lists name list ≡ before ++ p ∷ after
  pub short : AllShorter s.heap r before
  pub h : DeletedHeader
  pub rest : List ℕ
  pub there : s.heap p ≡ Some (deleted h rest)
  pub long : r ≤ 16 + length rest
  pub link_is : link ≡ loc_or (last_of before)
