-- What dropping a namespace makes of a shape.
use Rattle.std.specs.Prelude.{◌≡◌, ◌≢◌, ℕ, List, [], ◌++◌, Some, None, true, false, if◌then◌else◌}
use Rattle.mm_frames.specs.declared.extent_header.ExtentHeader.{ExtentHeader}
use Rattle.mm_links.specs.Links.{Place, has}
use Rattle.mm_extents.specs.Heap.{extent}
use Rattle.mm_records.specs.Constants.{is_name}
use Rattle.mm_records.specs.Shape.{Shape}
use Rattle.mm_records.specs.Map.{live_at}

-- The extents of the namespace are the last of the free chain, in their order. No record and no deleted block of it is there any more, and the
-- maps, chains and lists of all other namespaces stay. Each extent keeps its length, and each block of another namespace is as it was.
pub record IsDropped (s t : Shape) (free name : List ℕ) : Type 0 where
  pub gone : (p : Place) → live_at t name p ≡ None
  pub others : (m : List ℕ) (p : Place) → m ≢ name → live_at t m p ≡ live_at s m p
  pub extents : (m : List ℕ) → t.extents m ≡ (if is_name m free then s.extents free ++ s.extents name else (if is_name m name then [] else s.extents m))
  pub records : (e : Place) → t.records e ≡ (if has (s.extents name) e then [] else s.records e)
  pub lists : (m : List ℕ) (i : ℕ) → t.lists m i ≡ (if is_name m name then [] else s.lists m i)
  pub lengths : (e : Place) (h : ExtentHeader) → s.heap e ≡ Some (extent h) → (g : ExtentHeader) × (t.heap e ≡ Some (extent g)) × (g.len ≡ h.len)
  pub live_stay : (e p : Place) → has (s.extents name) e ≡ false → has (s.records e) p ≡ true → t.heap p ≡ s.heap p
  pub deleted_stay : (m : List ℕ) (i : ℕ) (p : Place) → m ≢ name → has (s.lists m i) p ≡ true → t.heap p ≡ s.heap p
