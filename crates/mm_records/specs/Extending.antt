-- What a new extent makes of a shape.
use Rattle.std.specs.Prelude.{◌≡◌, ℕ, pos, ◌+◌, ◌-◌, ◌≤◌, ◌&&◌, ◌==◌, false, if◌then◌else◌, List, ◌∷◌, length, Option, Some}
use Rattle.mm_frames.specs.declared.extent_header.ExtentHeader.{ExtentHeader}
use Rattle.mm_frames.specs.declared.deleted_header.DeletedHeader.{DeletedHeader}
use Rattle.mm_base.specs.declared.place.DiskLoc.{DiskLoc}
use Rattle.mm_ranges.specs.Overlay.{Image}
use Rattle.mm_links.specs.Links.{Place, same, first_of, last_of, appended}
use Rattle.mm_extents.specs.Heap.{Heap, extent, deleted, IsHeap, change}
use Rattle.mm_extents.specs.Changes.{loc, loc_or, LowOr, xprev_set, deleted_next_set, behind_of}
use Rattle.mm_extents.specs.Tiling.{ground}
use Rattle.mm_extents.specs.FreeExtents.{IsPlaced, next_passed, ExtentOr}
use Rattle.mm_records.specs.Constants.{is_name}
use Rattle.mm_records.specs.Shape.{Shape, list_for}
use Rattle.mm_records.specs.Map.{live_at}
use Rattle.mm_records.specs.Taking.{IsBlockAt}
use Rattle.mm_records.specs.Passing.{HasExtent}

-- the extent at e stands behind another, and its block before the head of a list
abbrev pub linked_in : Option Place → Place → DiskLoc → Heap → Heap
linked_in last e head heap = change (behind_of e 176) (deleted_next_set head) (change e (xprev_set (loc_or last)) (next_passed last (loc e) heap))

-- files in which an extent is to be linked
pub record CanLink (image : Image) (last : Option Place) (e : Place) : Type 0 where
  pub heap : Heap
  pub is : IsHeap image heap
  pub low : LowOr last
  pub there : ExtentOr heap last
  pub here : HasExtent heap e
  pub block : IsBlockAt heap (behind_of e 176)

-- The shape with one more extent of the namespace, at e, the last of its chain. Its whole room is a deleted block, which heads the list of its length.
abbrev pub extended_shape : List ℕ → List ℕ → Place → ℕ → List Place → Heap → Shape → Shape
extended_shape free name e n chain heap s = record s {
  heap = linked_in (last_of (s.extents name)) e (loc_or (first_of (s.lists name (list_for (n - 176))))) heap;
  extents = λ m. if is_name m free then chain else (if is_name m name then appended (s.extents m) e else s.extents m);
  lists = λ m i. if is_name m name && i == list_for (n - 176) then behind_of e 176 ∷ s.lists m i else s.lists m i;
}

-- The namespace has one more extent, at e and of n bytes, the last of its chain. Its whole room is a deleted block, which heads the list of its length. The maps of all namespaces stay, and so do all other extents and blocks, with their lengths.
pub record IsExtended (image : Image) (s t : Shape) (free name : List ℕ) (len : ℕ) (e : Place) (n : ℕ) : Type 0 where
  pub chain : List Place
  pub placed : IsPlaced image s.heap (s.extents free) chain e len n
  pub long : len ≤ n
  pub header : ExtentHeader
  pub here : t.heap e ≡ Some (extent header)
  pub len_is : header.len ≡ pos n
  pub block : DeletedHeader
  pub room : List ℕ
  pub behind : t.heap (behind_of e 176) ≡ Some (deleted block room)
  pub room_long : 16 + length room ≡ n - 176
  pub map : (m : List ℕ) (q : Place) → live_at t m q ≡ live_at s m q
  pub extents : (m : List ℕ) → t.extents m ≡ (if is_name m free then chain else (if is_name m name then appended (s.extents m) e else s.extents m))
  pub records : (f : Place) → t.records f ≡ s.records f
  pub lists : (m : List ℕ) (i : ℕ) → t.lists m i ≡ (if is_name m name && i == list_for (n - 176) then behind_of e 176 ∷ s.lists m i else s.lists m i)
  pub layout : (q : Place) → same e q ≡ false → same (behind_of e 176) q ≡ false → ground t.heap q ≡ ground s.heap q
