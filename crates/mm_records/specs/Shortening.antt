-- What leaving a record its front bytes makes of a shape.
use Rattle.std.specs.Prelude.{◌≡◌, ℕ, pos, ◌+◌, ◌-◌, ◌≤◌, ℤ, ◌&&◌, ◌==◌, false, if◌then◌else◌, List, ◌∷◌, length, take, Some}
use Rattle.mm_frames.specs.declared.rec_header.RecHeader.{RecHeader}
use Rattle.mm_frames.specs.declared.deleted_header.DeletedHeader.{DeletedHeader}
use Rattle.mm_links.specs.Links.{Place, same, first_of}
use Rattle.mm_extents.specs.Tiling.{a_block, ground}
use Rattle.mm_extents.specs.Changes.{loc_or, front_of, rest_of, behind_of, put_two}
use Rattle.mm_records.specs.Constants.{is_name}
use Rattle.mm_records.specs.Shape.{Shape, list_for}
use Rattle.mm_records.specs.Map.{live_at}

-- the header of the block behind the front
abbrev pub cut_header : List ℕ → RecHeader → ℕ → Shape → DeletedHeader
cut_header name h rest s = record { length_with_headers = pos rest; extent_ofs = h.extent_ofs; next_deleted = loc_or (first_of (s.lists name (list_for rest))) }

-- The record at p, of this header and room, keeps its front r bytes. The others are a deleted block, which heads the list of its length.
abbrev pub shortened_shape : List ℕ → Place → RecHeader → List ℕ → ℕ → Shape → Shape
shortened_shape name p h room r s = record s {
  heap = put_two p (front_of r h room) (behind_of p r) (rest_of r (cut_header name h (16 + length room - r) s) room) s.heap;
  lists = λ m i. if is_name m name && i == list_for (16 + length room - r) then behind_of p r ∷ s.lists m i else s.lists m i;
}

-- both parts are long enough for a block
pub record CanCut (r n : ℕ) : Type 0 where
  pub front : 32 ≤ r
  pub rest : r + 32 ≤ n

-- The block at p has n bytes no more: it has the first r of them, and behind it a block has the others. Every other extent and block stays where it is, with its length.
pub record IsParted (s t : Shape) (p : Place) (r n : ℕ) : Type 0 where
  pub ext : ℤ
  pub len : ℤ
  pub was : ground s.heap p ≡ Some (a_block ext len n)
  pub front : ground t.heap p ≡ Some (a_block ext (pos r) r)
  pub behind : ground t.heap (behind_of p r) ≡ Some (a_block ext (pos (n - r)) (n - r))
  pub others : (q : Place) → same p q ≡ false → same (behind_of p r) q ≡ false → ground t.heap q ≡ ground s.heap q

-- The room of the record at p ends with its front r bytes, and the block behind heads the list of its length. Every other record stays.
pub record IsShortened (s t : Shape) (name : List ℕ) (p : Place) (r : ℕ) (room : List ℕ) : Type 0 where
  pub here : live_at t name p ≡ Some (take (r - 16) room)
  pub others : (m : List ℕ) (q : Place) → same p q ≡ false → live_at t m q ≡ live_at s m q
  pub extents : (m : List ℕ) → t.extents m ≡ s.extents m
  pub records : (e : Place) → t.records e ≡ s.records e
  pub lists : (m : List ℕ) (i : ℕ) → t.lists m i ≡ (if is_name m name && i == list_for (16 + length room - r) then behind_of p r ∷ s.lists m i else s.lists m i)
  pub parted : IsParted s t p r (16 + length room)
