-- What taking a place for a payload makes of a shape.
use Rattle.std.specs.Prelude.{◌≡◌, ℕ, ◌+◌, ◌*◌, ◌≤◌, ◌⊎◌, false, List, length, take, Some, None}
use Rattle.mm_base.specs.declared.place.DiskLoc.{DiskLoc}
use Rattle.mm_ranges.specs.Overlay.{Image}
use Rattle.mm_links.specs.Links.{Place, same}
use Rattle.mm_extents.specs.Room.{room, LowersRoom}
use Rattle.mm_records.specs.Shape.{Shape}
use Rattle.mm_records.specs.Map.{live_at}
use Rattle.mm_records.specs.Searching.{NoBlock, IsChosen}
use Rattle.mm_records.specs.Adding.{IsAdded}
use Rattle.mm_records.specs.Extending.{IsExtended}
use Rattle.mm_records.specs.Asking.{extent_len}

-- The shape of an image as it is; or, only where no block of the namespace has r bytes, with one more extent of it.
abbrev pub IsGrown : Image → Shape → Shape → List ℕ → List ℕ → ℕ → Type 0
IsGrown image s m free name r = (m ≡ s) ⊎ (NoBlock s name r × ((e : Place) × ((n : ℕ) × IsExtended image s m free name (extent_len s name r) e n)))

-- The map of the namespace has one more pair: at p, where no namespace had a record, a room whose front is the payload. Every other pair of all maps stays.
-- The block is the first of r bytes in the first list that has one, from the list of r bytes on.
pub record IsAllocated (image : Image) (s t : Shape) (free name : List ℕ) (p : Place) (r : ℕ) (payload : List ℕ) : Type 0 where
  pub fresh : (m : List ℕ) → live_at s m p ≡ None
  pub room : List ℕ
  pub here : live_at t name p ≡ Some room
  pub front : take (length payload) room ≡ payload
  pub enough : r ≤ 16 + length room
  pub others : (m : List ℕ) (q : Place) → same p q ≡ false → live_at t m q ≡ live_at s m q
  pub grown : Shape
  pub is_grown : IsGrown image s grown free name r
  pub list : ℕ
  pub before : DiskLoc
  pub chosen : IsChosen grown name r list before p
  pub added : IsAdded grown t name p r (16 + length chosen.rest) payload

-- What taking a place for r bytes costs the room of the files: nothing where a block of the namespace has r bytes; else at most four times the length of the extent that is added.
pub record PaysRoom (s : Shape) (name : List ℕ) (r : ℕ) (old new : Image) : Type 0 where
  pub nothing : (NoBlock s name r → ⊥) → room new ≡ room old
  pub most : LowersRoom (4 * extent_len s name r) old new
