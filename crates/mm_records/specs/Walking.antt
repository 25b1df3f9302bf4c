-- Walking over the extents of a namespace.
use Rattle.std.specs.Prelude.{◌≡◌, ◌≢◌, ℕ, ◌+◌, List, ◌++◌, length, flat_map}
use Rattle.mm_base.specs.declared.place.DiskLoc.{DiskLoc}
use Rattle.mm_ranges.specs.Overlay.{Image}
use Rattle.mm_links.specs.Links.{Place, first_of}
use Rattle.mm_extents.specs.Changes.{loc_or}
use Rattle.mm_records.specs.Shape.{Shape}
use Rattle.mm_records.specs.Stands.{Stands}

-- the extents of a name from the one on that a frame names
pub record IsRest (image : Image) (free : List ℕ) (s : Shape) (name : List ℕ) (rest : List Place) (at : DiskLoc) : Type 0 where
  pub stands : Stands image free s
  pub isnt_free : name ≢ free
  pub before : List Place
  pub is : s.extents name ≡ before ++ rest
  pub here : at ≡ loc_or (first_of rest)

-- how far a walk over extents without records has come
pub record IsAhead (image : Image) (free : List ℕ) (s : Shape) (name : List ℕ) (whole : List Place) (steps : ℕ) (at : DiskLoc) : Type 0 where
  pub rest : List Place
  pub now : IsRest image free s name rest at
  pub same_first : first_of (flat_map s.records rest) ≡ first_of (flat_map s.records whole)
  pub count : steps + length rest ≡ length whole
