-- Extents of a namespace that is dropped, as they join the free chain.
use Rattle.std.specs.Prelude.{◌≡◌, ◌≢◌, ℕ, ℤ, pos, ◌+◌, ◌&&◌, ◌==◌, nat_lt, true, false, if◌then◌else◌, Bool, List, Some, None}
use Rattle.mm_base.specs.Bytes.{padded}
use Rattle.mm_base.specs.Places.{null}
use Rattle.mm_base.specs.declared.place.DiskLoc.{DiskLoc}
use Rattle.mm_frames.specs.Texts.{text_in}
use Rattle.mm_frames.specs.declared.extent_header.ExtentHeader.{ExtentHeader}
use Rattle.mm_links.specs.Links.{Place, same, has, once, first_of, last_of, next_in}
use Rattle.mm_extents.specs.Heap.{Cell, extent, Heap}
use Rattle.mm_extents.specs.Changes.{loc, loc_or}
use Rattle.mm_extents.specs.FreeExtents.{next_passed, without_links}

-- the place lies behind e, in its n bytes
abbrev pub within : Place → ℕ → Place → Bool
within e n q = q.0 == e.0 && (nat_lt e.1 q.1 && nat_lt q.1 (e.1 + n))

-- the header of a free extent, behind another one
abbrev pub header_freed : Place → List ℕ → ℤ → DiskLoc → ExtentHeader
header_freed e name len prev = record { magic = 0x41424344; my_loc = loc e; xnext = null; xprev = prev; namespace = padded 128 name; len = len; first_record = null; last_record = null }

-- the heap with this header of an extent of n bytes, of whose insides nothing is said
abbrev pub with_freed : Place → ℕ → ExtentHeader → Heap → Heap
with_freed e n h heap q = if same e q then Some (extent h) else (if within e n q then None else heap q)

-- At e there is an extent that isn't free, of n bytes.
pub record IsUsed (heap : Heap) (free : List ℕ) (e : Place) (n : ℕ) : Type 0 where
  pub h : ExtentHeader
  pub is : heap e ≡ Some (extent h)
  pub isnt_free : text_in h.namespace ≢ free
  pub long : h.len ≡ pos n

-- the heap in which that extent is a free one, behind the last of the chain
abbrev pub joined : Heap → List ℕ → List Place → Place → ℕ → DiskLoc → Heap
joined heap free chain e n last = with_freed e n (header_freed e free (pos n) last) (next_passed (last_of chain) (loc e) heap)

-- These are the extents from a place on, each naming the one behind it. None of them is free.
pub record AreUsed (heap : Heap) (free : List ℕ) (ps : List Place) (first : DiskLoc) : Type 0 where
  pub head : first ≡ loc_or (first_of ps)
  pub no_twice : once ps ≡ true
  pub each : (p : Place) → has ps p ≡ true → (n : ℕ) × ((u : IsUsed heap free p n) × (u.h.xnext ≡ loc_or (next_in ps p)))

-- Each of these extents has its length, the free name and null record places. Nothing is said of their insides; of all else only the links of the chain of free extents change.
pub record AreFreed (heap t : Heap) (free : List ℕ) (chain ps : List Place) : Type 0 where
  pub freed : (p : Place) (h : ExtentHeader) → has ps p ≡ true → heap p ≡ Some (extent h) → (next : DiskLoc) × ((prev : DiskLoc) × (t p ≡ Some (extent (record (header_freed p free h.len prev) { xnext = next }))))
  pub others : (q : Place) → ((p : Place) (h : ExtentHeader) (n : ℕ) → has ps p ≡ true → heap p ≡ Some (extent h) → h.len ≡ pos n → (same p q ≡ false) × (within p n q ≡ false)) → without_links (t q) ≡ without_links (heap q)
  pub same_off : (q : Place) → has chain q ≡ false → has ps q ≡ false → ((p : Place) (h : ExtentHeader) (n : ℕ) → has ps p ≡ true → heap p ≡ Some (extent h) → h.len ≡ pos n → within p n q ≡ false) → t q ≡ heap q
