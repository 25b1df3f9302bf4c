-- The extents of each file, as the check found them.
use Rattle.std.specs.Prelude.{◌≡◌, ℕ, ℤ, pos, true, List, Option, Some}
use Rattle.mm_base.specs.Bytes.{padded}
use Rattle.mm_ranges.specs.Overlay.{Image}
use Rattle.mm_frames.specs.Texts.{text_in}
use Rattle.mm_frames.specs.declared.extent_header.ExtentHeader.{ExtentHeader}
use Rattle.mm_links.specs.Links.{Place, has}
use Rattle.mm_extents.specs.Heap.{Heap, extent}
use Rattle.mm_walk.specs.Walk.{IsWhole}
use Rattle.mm_check.specs.ExtentChain.{ext_at, file_reading}

-- The extents of each file follow one another up to its unused rest; what stands at them is what the bytes have; and there are no others.
-- Their names are zero padded, as those of nodes are.
pub record AreasFound (image : Image) (heap : Heap) (unused : ℕ → Option ℤ) : Type 0 where
  pub found : ℕ → List Place
  pub seen : ℕ → List Place
  pub whole : (file u : ℕ) → unused file ≡ Some (pos u) → IsWhole (file_reading image file u) (seen file) (found file)
  pub there : (file : ℕ) (p : Place) → has (found file) p ≡ true → heap p ≡ Some (extent (ext_at image p))
  pub only : (p : Place) (h : ExtentHeader) → heap p ≡ Some (extent h) → (u : ℕ) × (unused p.0 ≡ Some (pos u)) × (has (found p.0) p ≡ true)
  pub named : (file : ℕ) (p : Place) → has (found file) p ≡ true → (ext_at image p).namespace ≡ padded 128 (text_in (ext_at image p).namespace)
