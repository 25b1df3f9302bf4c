-- The chain of free extents, and new extents.
use Rattle.std.specs.Prelude.{◌≡◌, ℕ, pos, ◌+◌, ◌-◌, ◌<◌, ◌≤◌, ◌⊎◌, true, false, List, ◌∷◌, ◌++◌, length, Option, Some, None}
use Rattle.mm_base.specs.Bytes.{part, padded}
use Rattle.mm_base.specs.Places.{null}
use Rattle.mm_base.specs.declared.place.DiskLoc.{DiskLoc}
use Rattle.mm_ranges.specs.Overlay.{Image, bytes_at}
use Rattle.mm_ranges.specs.declared.limits.TheConstants.{NS_FILE}
use Rattle.mm_frames.specs.Texts.{text_in}
use Rattle.mm_frames.specs.ExtentHeader.{extent_header_of}
use Rattle.mm_frames.specs.declared.extent_header.ExtentHeader.{ExtentHeader}
use Rattle.mm_frames.specs.declared.deleted_header.DeletedHeader.{DeletedHeader}
use Rattle.mm_frames.specs.declared.free_ends.FreeEnds.{FreeEnds}
use Rattle.mm_links.specs.Links.{Place, same, has, once, first_of, last_of, next_in, without, IsLinked}
use Rattle.mm_extents.specs.Heap.{Cell, extent, live, deleted, size, Heap, IsHeap, change}
use Rattle.mm_extents.specs.Changes.{loc, loc_or, LowOr, xnext_set, xprev_set, behind_of, put_two}
use Rattle.mm_extents.specs.Files.{FilesStand, unused_in}
use Rattle.mm_extents.specs.Rests.{NoRest, IsNextRest}
use Rattle.mm_extents.specs.Tiling.{ground, IsTiled}
use Rattle.mm_extents.specs.Chains.{ext_next, ext_prev}

-- ---- the chain as the files have it

abbrev pub extent_at : Image → Place → ExtentHeader
extent_at image p = extent_header_of (part p.1 176 (bytes_at image p.0))

-- an extent of the chain
pub record IsOnChain (image : Image) (chain : List Place) (p : Place) : Type 0 where
  pub file : p.0 < 8
  pub low : p.1 < 67108864
  pub inside : p.1 + 176 ≤ length (bytes_at image p.0)
  pub len : ℕ
  pub len_is : (extent_at image p).len ≡ pos len
  pub next_is : (extent_at image p).xnext ≡ loc_or (next_in chain p)

pub record IsChain (image : Image) (chain : List Place) (head : DiskLoc) : Type 0 where
  pub head_is : head ≡ loc_or (first_of chain)
  pub no_twice : once chain ≡ true
  pub extents : (p : Place) → has chain p ≡ true → IsOnChain image chain p

-- each extent of these has fewer bytes
abbrev pub AllShort : Image → ℕ → List Place → Type 0
AllShort image r ps = (p : Place) (n : ℕ) → has ps p ≡ true → (extent_at image p).len ≡ pos n → n < r

-- the first extent of the chain that has as many bytes
pub record IsFirstFit (image : Image) (chain : List Place) (r : ℕ) (at : Place) : Type 0 where
  pub before : List Place
  pub after : List Place
  pub is : chain ≡ before ++ at ∷ after
  pub short : AllShort image r before
  pub long : (n : ℕ) → (extent_at image at).len ≡ pos n → r ≤ n

-- how far a walk has come
pub record IsWalked (image : Image) (chain : List Place) (r steps : ℕ) (at : DiskLoc) : Type 0 where
  pub before : List Place
  pub rest : List Place
  pub is : chain ≡ before ++ rest
  pub count : length before ≡ steps
  pub here : at ≡ loc_or (first_of rest)
  pub short : AllShort image r before

-- ---- the chain in hand

-- The files stand with these free extents, whose ends are in hand.
pub record HasFree (image : Image) (free : List ℕ) (heap : Heap) (chain : List Place) (ends : FreeEnds) : Type 0 where
  pub files : FilesStand image
  pub shown : IsHeap image heap
  pub tiled : IsTiled (ground heap) (unused_in image) free
  pub linked : IsLinked loc_or chain (λ p. ext_next (heap p)) (λ p. ext_prev (heap p))
  pub on_chain : (p : Place) → has chain p ≡ true → (h : ExtentHeader) × (heap p ≡ Some (extent h)) × (text_in h.namespace ≡ free)
  pub first : ends.first ≡ loc_or (first_of chain)
  pub last : ends.last ≡ loc_or (last_of chain)

-- each of these extents has fewer bytes
abbrev pub AllShorter : Heap → ℕ → List Place → Type 0
AllShorter heap r ps = (p : Place) (h : ExtentHeader) (n : ℕ) → has ps p ≡ true → heap p ≡ Some (extent h) → h.len ≡ pos n → n < r

-- the first free extent of so many bytes
pub record IsFirstFree (heap : Heap) (chain : List Place) (r : ℕ) (at : Place) : Type 0 where
  pub before : List Place
  pub after : List Place
  pub is : chain ≡ before ++ at ∷ after
  pub short : AllShorter heap r before
  pub long : (h : ExtentHeader) (n : ℕ) → heap at ≡ Some (extent h) → h.len ≡ pos n → r ≤ n

-- ---- a new extent

-- the header of an extent without records, and of its whole room as a deleted block
abbrev pub header_made : Place → List ℕ → ℕ → ExtentHeader
header_made e name n = record { magic = 0x41424344; my_loc = loc e; xnext = null; xprev = null; namespace = padded 128 name; len = pos n; first_record = null; last_record = null }

abbrev pub whole_block : Place → ℕ → DeletedHeader
whole_block e n = record { length_with_headers = pos (n - 176); extent_ofs = pos e.1; next_deleted = null }

-- What stands in the file of these n bytes stands before or behind them.
abbrev pub IsClear : Heap → Place → ℕ → Type 0
IsClear heap e n = (q : Place) (c : Cell) → heap q ≡ Some c → same e q ≡ false → q.0 ≡ e.0 → (q.1 + size c ≤ e.1) ⊎ (e.1 + n ≤ q.1)

-- the heap with a new extent: its header, and behind it a deleted block of all its other bytes, whatever they are
abbrev pub with_extent : Place → List ℕ → ℕ → List ℕ → Heap → Heap
with_extent e name n rest heap = put_two e (extent (header_made e name n)) (behind_of e 176) (deleted (whole_block e n) rest) heap

-- the link to an extent goes past it: in the extent before it; and the link back in the one behind it
abbrev pub next_passed : Option Place → DiskLoc → Heap → Heap
next_passed None z heap = heap
next_passed (Some x) z heap = change x (xnext_set z) heap

abbrev pub prev_passed : Option Place → DiskLoc → Heap → Heap
prev_passed None z heap = heap
prev_passed (Some x) z heap = change x (xprev_set z) heap

-- an extent stands there
pub record IsExtentAt (heap : Heap) (p : Place) : Type 0 where
  pub h : ExtentHeader
  pub is : heap p ≡ Some (extent h)

abbrev pub ExtentOr : Heap → Option Place → Type 0
ExtentOr heap None = Unit {0}
ExtentOr heap (Some x) = IsExtentAt heap x

-- files in which an extent stands where a frame names one
pub record PassFits (image : Image) (o : Option Place) (at : DiskLoc) : Type 0 where
  pub named : at ≡ loc_or o
  pub low : LowOr o
  pub heap : Heap
  pub is : IsHeap image heap
  pub there : ExtentOr heap o

-- a cell without the links of extents
abbrev pub without_links : Option Cell → Option Cell
without_links None = None
without_links (Some (extent h)) = Some (extent (record h { xnext = null; xprev = null }))
without_links (Some (live h room)) = Some (live h room)
without_links (Some (deleted h rest)) = Some (deleted h rest)

-- The free extent at e is one of a namespace, with its length n and without records, and its whole room is one deleted block. Of all else only the links of free extents change.
pub record IsReused (heap t : Heap) (chain : List Place) (e : Place) (name : List ℕ) (n : ℕ) : Type 0 where
  pub h : ExtentHeader
  pub was : heap e ≡ Some (extent h)
  pub long : h.len ≡ pos n
  pub empty : heap (behind_of e 176) ≡ None
  pub here : t e ≡ Some (extent (header_made e name n))
  pub rest : List ℕ
  pub rest_long : length rest ≡ n - 192
  pub block : t (behind_of e 176) ≡ Some (deleted (whole_block e n) rest)
  pub others : (q : Place) → same e q ≡ false → same (behind_of e 176) q ≡ false → without_links (t q) ≡ without_links (heap q)
  pub same_off : (q : Place) → same e q ≡ false → same (behind_of e 176) q ≡ false → has chain q ≡ false → t q ≡ heap q

-- At e, where nothing stood, there is an extent of a namespace of n bytes without records, whose whole room is one deleted block. All else stays.
pub record IsCutOff (heap t : Heap) (e : Place) (name : List ℕ) (n : ℕ) : Type 0 where
  pub none : heap e ≡ None
  pub empty : heap (behind_of e 176) ≡ None
  pub here : t e ≡ Some (extent (header_made e name n))
  pub rest : List ℕ
  pub rest_long : length rest ≡ n - 192
  pub block : t (behind_of e 176) ≡ Some (deleted (whole_block e n) rest)
  pub others : (q : Place) → same e q ≡ false → same (behind_of e 176) q ≡ false → t q ≡ heap q

-- ---- either of the two

-- Which place it is: the first free extent of so many bytes, which keeps its length and leaves the free chain; or, where none has as many, where the files next have them, and nothing stood there.
abbrev pub IsPlaced : Image → Heap → List Place → List Place → Place → ℕ → ℕ → Type 0
IsPlaced image heap chain chain' e len n = (IsFirstFree heap chain len e × (has chain e ≡ true) × (chain' ≡ without e chain)) ⊎ (AllShorter heap len chain × (heap e ≡ None) × (chain' ≡ chain) × (n ≡ len) × IsNextRest image e len)

-- At e there is an extent of a namespace, of n bytes and without records, whose whole room is one deleted block. Of all else only the links of free extents change.
pub record IsNewExtent (image : Image) (heap t : Heap) (chain chain' : List Place) (e : Place) (name : List ℕ) (len n : ℕ) : Type 0 where
  pub placed : IsPlaced image heap chain chain' e len n
  pub long : len ≤ n
  pub empty : heap (behind_of e 176) ≡ None
  pub here : t e ≡ Some (extent (header_made e name n))
  pub rest : List ℕ
  pub rest_long : length rest ≡ n - 192
  pub block : t (behind_of e 176) ≡ Some (deleted (whole_block e n) rest)
  pub others : (q : Place) → same e q ≡ false → same (behind_of e 176) q ≡ false → without_links (t q) ≡ without_links (heap q)
  pub same_off : (q : Place) → same e q ≡ false → same (behind_of e 176) q ≡ false → has chain q ≡ false → t q ≡ heap q

-- No free extent has so many bytes, nor the unused rest of the last file, nor a file that isn't there, behind its header.
pub record NoExtent (image : Image) (heap : Heap) (chain : List Place) (len : ℕ) : Type 0 where
  pub short : AllShorter heap len chain
  pub no_rest : NoRest image len

-- The new extent at the place that a frame names so, and the free extents without it: what the files hold then, which were this image and heap before.
abbrev pub IsMadeOf : Image → Image → List ℕ → Heap → List Place → FreeEnds → List ℕ → ℕ → DiskLoc → Type 0
IsMadeOf old image free heap chain ends name len at = (t : Heap) × ((e : Place) × ((n : ℕ) × ((chain' : List Place) × ((at ≡ loc e) × (HasFree image free t chain' ends × IsNewExtent old heap t chain chain' e name len n)))))

-- What a draft is where no extent of len bytes was to be had: files without extents may have been made behind the last one. Nothing else changed, and no file has so many bytes even then.
pub record IsLeftFull (old new : Image) (len : ℕ) : Type 0 where
  pub ns : bytes_at new NS_FILE ≡ bytes_at old NS_FILE
  pub stands : (free : List ℕ) (heap : Heap) (chain : List Place) (ends : FreeEnds) → HasFree old free heap chain ends → HasFree new free heap chain ends
  pub no_rest : NoRest new len
