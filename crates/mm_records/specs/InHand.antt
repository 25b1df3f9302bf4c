-- The namespaces of a database while the details of one node are in hand.
use Rattle.std.specs.Prelude.{◌≡◌, ◌≢◌, ℕ, List, Some}
use Rattle.std.specs.FinMap.{get}
use Rattle.mm_ranges.specs.Overlay.{Image}
use Rattle.mm_frames.specs.Texts.{text_in}
use Rattle.mm_frames.specs.declared.extent_header.ExtentHeader.{ExtentHeader}
use Rattle.mm_frames.specs.declared.details.Details.{Details}
use Rattle.mm_nstable.specs.Nodes.{IsTable}
use Rattle.mm_nstable.specs.Table.{Held, table_of}
use Rattle.mm_links.specs.Links.{Place}
use Rattle.mm_extents.specs.Heap.{extent, IsHeap}
use Rattle.mm_extents.specs.Files.{FilesStand, unused_in}
use Rattle.mm_extents.specs.Tiling.{ground, IsTiled}
use Rattle.mm_extents.specs.Chains.{ExtentsStand}
use Rattle.mm_records.specs.Shape.{Shape}
use Rattle.mm_records.specs.Stands.{RecordsStand, ListsStand, DetailsStand, HasNode, FreeStands, IsNode, ns_in}
use Rattle.mm_records.specs.Map.{name_at}

-- The files stand but for the details of one node, whose right ones are these.
pub record StandsWith (image : Image) (free : List ℕ) (s : Shape) (node : ℕ) (d : Details) : Type 0 where
  pub files : FilesStand image
  pub table : IsTable (ns_in image)
  pub heap : IsHeap image s.heap
  pub tiled : IsTiled (ground s.heap) (unused_in image) free
  pub extents : ExtentsStand s.heap s.extents
  pub owners : (p : Place) (h : ExtentHeader) → s.heap p ≡ Some (extent h) → HasNode image (text_in h.namespace)
  pub records : RecordsStand free s
  pub lists : ListsStand s
  pub is_node : IsNode image free node
  pub own : DetailsStand s (name_at image node) d
  pub others : (name : List ℕ) (held : Held) → get (table_of (ns_in image)) name ≡ Some held → name ≢ free → name ≢ name_at image node → DetailsStand s name held.details
  pub free_chain : (held : Held) × FreeStands image free s held
