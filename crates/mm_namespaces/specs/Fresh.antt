-- A namespace without extents, and the files of a new database (MongoDB 2.6, MMAPv1).
use Rattle.std.specs.Prelude.{◌≡◌, ℕ, pos, ◌<◌, List, [], None, slice_index_or}
use Rattle.mm_base.specs.Places.{null}
use Rattle.mm_ranges.specs.Overlay.{Image}
use Rattle.mm_frames.specs.declared.details.Details.{Details}
use Rattle.mm_links.specs.Links.{Place}
use Rattle.mm_records.specs.Constants.{HasConstants}
use Rattle.mm_records.specs.Shape.{Shape}
use Rattle.mm_records.specs.Stands.{Stands}

-- the details of a namespace without extents, records and indexes
pub record IsFresh (name : List ℕ) (d : Details) : Type 0 where
  pub first : d.first_extent ≡ null
  pub last : d.last_extent ≡ null
  pub heads : (i : ℕ) → i < 19 → slice_index_or d.deleted i null ≡ null
  pub nrecords : d.nrecords ≡ pos 0
  pub datasize : d.datasize ≡ pos 0
  pub last_size : d.last_extent_size ≡ pos 0
  pub no_indexes : d.n_indexes ≡ pos 0
  pub constants : HasConstants name d

-- nothing stands in the data files: no extent, and so no record and no block
pub record HasNothing (s : Shape) : Type 0 where
  pub heap : (p : Place) → s.heap p ≡ None
  pub extents : (name : List ℕ) → s.extents name ≡ []
  pub records : (e : Place) → s.records e ≡ []
  pub lists : (name : List ℕ) (i : ℕ) → s.lists name i ≡ []

-- The files of an image stand, and nothing stands in the data files.
abbrev pub IsNew : Image → List ℕ → Type 0
IsNew image free = (s : Shape) × (Stands image free s × HasNothing s)
