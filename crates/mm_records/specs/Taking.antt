-- What taking a deleted block for a record makes of a shape.
use Rattle.std.specs.Prelude.{◌≡◌, ℕ, pos, negsuc, true, false, if◌then◌else◌, List, Option, Some, None}
use Rattle.mm_base.specs.declared.place.DiskLoc.{DiskLoc}
use Rattle.mm_ranges.specs.Overlay.{Image}
use Rattle.mm_frames.specs.declared.deleted_header.DeletedHeader.{DeletedHeader}
use Rattle.mm_frames.specs.declared.extent_header.ExtentHeader.{ExtentHeader}
use Rattle.mm_links.specs.Links.{Place, same, has, last_of, appended, without}
use Rattle.mm_extents.specs.Heap.{extent, deleted, Heap, IsHeap, change}
use Rattle.mm_extents.specs.Changes.{loc_or, ofs_or, LowOr, deleted_next_set, taken}
use Rattle.mm_records.specs.Shape.{Shape}
use Rattle.mm_records.specs.Freeing.{forward, backward}
use Rattle.mm_records.specs.Map.{live_at, SameLayout}

-- the link to a block goes past it: in the block before it
abbrev pub list_passed : Option Place → DiskLoc → Heap → Heap
list_passed None next heap = heap
list_passed (Some x) next heap = change x (deleted_next_set next) heap

-- a deleted block stands there
pub record IsBlockAt (heap : Heap) (p : Place) : Type 0 where
  pub h : DeletedHeader
  pub rest : List ℕ
  pub is : heap p ≡ Some (deleted h rest)

abbrev pub BlockOr : Heap → Option Place → Type 0
BlockOr heap None = Unit {0}
BlockOr heap (Some x) = IsBlockAt heap x

-- files in which the block before it, where there is one, is a deleted block
pub record PassFits (image : Image) (o : Option Place) (before : DiskLoc) : Type 0 where
  pub named : before ≡ loc_or o
  pub low : LowOr o
  pub heap : Heap
  pub is : IsHeap image heap
  pub block : BlockOr heap o

-- the extent at e names o as its last record
pub record IsLastLink (image : Image) (e : Place) (o : Option Place) : Type 0 where
  pub heap : Heap
  pub is : IsHeap image heap
  pub h : ExtentHeader
  pub there : heap e ≡ Some (extent h)
  pub names : h.last_record ≡ loc_or o
  pub low : LowOr o

-- the block at p, of the extent at (p.0, ext), is the last record of that extent's chain, and is on no list
abbrev pub taken_shape : Place → ℕ → Option Place → DiskLoc → Shape → Shape
taken_shape p ext before next s = record s {
  heap = backward p.0 ext (pos p.1) (negsuc 0) (forward p.0 ext (ofs_or (last_of (s.records (p.0, ext)))) (pos p.1)
      (change p (taken (negsuc 0) (ofs_or (last_of (s.records (p.0, ext))))) (list_passed before next s.heap)));
  records = λ e. if same e (p.0, ext) then appended (s.records e) p else s.records e;
  lists = λ m i. without p (s.lists m i);
}

-- The block at p is a record of the namespace, behind the last of its extent, and on no list; its room is the block's bytes behind the header. Every other record stays.
pub record IsTaken (s t : Shape) (name : List ℕ) (p : Place) (room : List ℕ) : Type 0 where
  pub fresh : (m : List ℕ) → live_at s m p ≡ None
  pub here : live_at t name p ≡ Some room
  pub others : (m : List ℕ) (q : Place) → same p q ≡ false → live_at t m q ≡ live_at s m q
  pub of : Place
  pub of_name : has (s.extents name) of ≡ true
  pub extents : (m : List ℕ) → t.extents m ≡ s.extents m
  pub records : (e : Place) → t.records e ≡ (if same e of then appended (s.records e) p else s.records e)
  pub lists : (m : List ℕ) (i : ℕ) → t.lists m i ≡ without p (s.lists m i)
  pub layout : SameLayout s t
