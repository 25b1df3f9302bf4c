-- What holds of a draft between two calls.
use Rattle.std.specs.Prelude.{◌≡◌, ℕ, true, List}
use Rattle.mm_base.specs.declared.place.DiskLoc.{DiskLoc}
use Rattle.mm_ranges.specs.Overlay.{Image}
use Rattle.mm_links.specs.Links.{Place}
use Rattle.mm_nstable.specs.Nodes.{is_used}
use Rattle.mm_nstable.specs.FreeChain.{IsFreeName}
use Rattle.mm_records.specs.Shape.{Shape}
use Rattle.mm_records.specs.Stands.{Stands, ns_in}
use Rattle.mm_records.specs.Map.{name_at, HasRecord}

-- the files stand
abbrev pub AreGood : Image → Type 0
AreGood image = (free : List ℕ) × ((s : Shape) × Stands image free s)

-- the node is used, and its name isn't one of a chain of free extents
pub record IsOfRecords (image : Image) (node : ℕ) : Type 0 where
  pub used : is_used (ns_in image) node ≡ true
  pub named : IsFreeName (name_at image node) → ⊥

-- in whatever way the files stand, the node's namespace has a record at the place
abbrev pub IsThere : Image → ℕ → DiskLoc → Type 0
IsThere image node at = (free : List ℕ) (s : Shape) → Stands image free s → (p : Place) × ((room : List ℕ) × HasRecord image free s node p at room)
