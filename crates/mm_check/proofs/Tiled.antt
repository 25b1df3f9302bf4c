-- Where phases 3 and 8 find nothing, extents tile the files and blocks the extents.
use Rattle.std.proofs.Common.{◌≡◌, ◌≢◌, ℕ, ℤ, pos, ◌+◌, List, Option, Some, sym, ◌∙◌, ap, subst}
use Rattle.mm_base.specs.declared.place.DiskLoc.{DiskLoc}
use Rattle.mm_ranges.specs.Overlay.{Image}
use Rattle.mm_frames.specs.Texts.{text_in}
use Rattle.mm_links.specs.Links.{Place}
use Rattle.mm_extents.specs.Heap.{Heap}
use Rattle.mm_extents.specs.Tiling.{an_extent, ground, BlockAt, IsTiled}
use Rattle.mm_walk.specs.Tiles.{Block}
use Rattle.mm_check.specs.ExtentChain.{ext_size}
use Rattle.mm_check.specs.Areas.{AreasFound}
use Rattle.mm_check.specs.Blocks.{BlocksFound}
use Rattle.mm_check.proofs.AreaLaws.{extents_begin, extents_tile, extents_apart, size_there}
use Rattle.mm_check.proofs.BlockLaws.{room_begins, blocks_tile}

module _ (image : Image) (heap : Heap) (unused : ℕ → Option ℤ) (free : List ℕ) (bs : Place → List Block) (f : AreasFound image heap unused) (b : BlocksFound (ground heap) free (ext_size image) bs) where
  room : (file at magic : ℕ) (here : DiskLoc) (name : List ℕ) (len : ℤ) (n : ℕ) → ground heap (file, at) ≡ Some (an_extent magic here name len) → len ≡ pos n → text_in name ≢ free → BlockAt (ground heap) (at + n) file at (at + 176)
  room file at magic here name len n g long isnt =
      let known : ground heap (file, at) ≡ Some (an_extent magic here name (pos n)) = g ∙ ap (λ (z : ℤ). Some (an_extent magic here name z)) long in
      let size : ext_size image (file, at) ≡ n = size_there image heap unused f (file, at) magic here name n known in
      subst (λ (k : ℕ). BlockAt (ground heap) (at + k) file at (at + 176)) size
      (room_begins (ground heap) free (ext_size image) bs b (file, at) (record { magic = magic; here = here; name = name; is = known ∙ ap (λ (k : ℕ). Some (an_extent magic here name (pos k))) (sym size); isnt_free = isnt }))

  pub files_tile : IsTiled (ground heap) unused free
  files_tile = record {
    begins = extents_begin image heap unused f;
    extents = λ file at magic here name len g.
        let t = extents_tile image heap unused f file at magic here name len g in
        (t.0, t.1, (t.2, t.3, λ isnt. room file at magic here name len t.2 g t.3.long isnt));
    apart = extents_apart image heap unused f;
    blocks = blocks_tile (ground heap) free (ext_size image) bs b;
  }
