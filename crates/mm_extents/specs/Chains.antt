-- The chains of extents, by the names that the extents have.
use Rattle.std.specs.Prelude.{◌≡◌, true, List, Option, Some, None}
use Rattle.mm_base.specs.Places.{null}
use Rattle.mm_base.specs.declared.place.DiskLoc.{DiskLoc}
use Rattle.mm_frames.specs.Texts.{text_in}
use Rattle.mm_frames.specs.declared.extent_header.ExtentHeader.{ExtentHeader}
use Rattle.std.specs.Prelude.{ℕ}
use Rattle.mm_links.specs.Links.{Place, has, IsLinked}
use Rattle.mm_ranges.specs.Overlay.{Image}
use Rattle.mm_extents.specs.Heap.{Cell, extent, live, deleted, Heap, IsHeap}
use Rattle.mm_extents.specs.Changes.{loc, loc_or}
use Rattle.mm_extents.specs.Files.{FilesStand}

abbrev pub ext_next : Option Cell → DiskLoc
ext_next None = null
ext_next (Some (extent h)) = h.xnext
ext_next (Some (live h room)) = null
ext_next (Some (deleted h rest)) = null

abbrev pub ext_prev : Option Cell → DiskLoc
ext_prev None = null
ext_prev (Some (extent h)) = h.xprev
ext_prev (Some (live h room)) = null
ext_prev (Some (deleted h rest)) = null

-- Each extent is once on the chain of the namespace whose name it has, and a chain holds nothing else. The free extents have a name and a chain too.
pub record ExtentsStand (heap : Heap) (extents : List ℕ → List Place) : Type 0 where
  pub linked : (name : List ℕ) → IsLinked loc_or (extents name) (λ p. ext_next (heap p)) (λ p. ext_prev (heap p))
  pub on_chain : (name : List ℕ) (p : Place) → has (extents name) p ≡ true → (h : ExtentHeader) × (heap p ≡ Some (extent h)) × (text_in h.namespace ≡ name)
  pub all : (p : Place) (h : ExtentHeader) → heap p ≡ Some (extent h) → has (extents (text_in h.namespace)) p ≡ true

-- In the files the extent at a place is on the chain of a name.
pub record OnChain (image : Image) (heap : Heap) (extents : List ℕ → List Place) (name : List ℕ) (p : Place) (at : DiskLoc) : Type 0 where
  pub files : FilesStand image
  pub shown : IsHeap image heap
  pub chains : ExtentsStand heap extents
  pub is : at ≡ loc p
  pub on : has (extents name) p ≡ true
