-- The blocks of each extent, as the check found them.
use Rattle.std.specs.Prelude.{◌≡◌, ◌≢◌, ℕ, ℤ, pos, ◌+◌, ◌≤◌, ◌<◌, List, Option, Some, None}
use Rattle.mm_base.specs.declared.place.DiskLoc.{DiskLoc}
use Rattle.mm_links.specs.Links.{Place}
use Rattle.mm_frames.specs.Texts.{text_in}
use Rattle.mm_extents.specs.Tiling.{Outline, an_extent, a_block}
use Rattle.mm_walk.specs.Tiles.{Block, In, first_gap}

-- an extent of this length, which isn't a free one
pub record IsArea (g : Place → Option Outline) (free : List ℕ) (e : Place) (len : ℕ) : Type 0 where
  pub magic : ℕ
  pub here : DiskLoc
  pub name : List ℕ
  pub is : g e ≡ Some (an_extent magic here name (pos len))
  pub isnt_free : text_in name ≢ free

-- The blocks of each extent of a namespace, by their places, have no gap, and what is a block is one of these.
pub record BlocksFound (g : Place → Option Outline) (free : List ℕ) (len : Place → ℕ) (bs : Place → List Block) : Type 0 where
  pub area : (e : Place) (b : Block) → In b (bs e) → IsArea g free e (len e)
  pub no_gap : (e : Place) → IsArea g free e (len e) → first_gap (e.1 + 176) (bs e) (e.1 + len e) ≡ None
  pub there : (e : Place) (b : Block) → In b (bs e) → g (e.0, b.0) ≡ Some (a_block (pos e.1) (pos b.1) b.1)
  pub long : (e : Place) (b : Block) → In b (bs e) → 32 ≤ b.1
  pub only : (file at n : ℕ) (ext l : ℤ) → g (file, at) ≡ Some (a_block ext l n) → (e : Place) × ((e.0 ≡ file) × In (at, n) (bs e))
  pub extents_apart : (e f : Place) (b c : Block) → In b (bs e) → In c (bs f) → e.0 ≡ f.0 → e.1 < f.1 → e.1 + len e ≤ f.1
