-- The room of a live record in its file, and what writing inside it leaves.
use Rattle.std.proofs.Common.{◌≡◌, ℕ, ◌+◌, ◌≤◌, false, List, [], ◌∷◌, ◌++◌, length, take, drop, Some, refl, sym, ◌∙◌, ap, subst, arith}
use Rattle.mm_base.specs.Bytes.{part, overwritten}
use Rattle.mm_base.proofs.Parts.{length-part, length-overwritten, part_first}
use Rattle.mm_ranges.specs.Bytes.{read_from}
use Rattle.mm_ranges.specs.Overlay.{Image, bytes_at}
use Rattle.mm_views.specs.State.{Drafting}
use Rattle.mm_links.specs.Links.{Place, same}
use Rattle.mm_extents.specs.Heap.{live, IsHeap, change}
use Rattle.mm_extents.specs.Changes.{written, room_set, KeepsHeaders}
use Rattle.mm_extents.proofs.Writes.{changed_here, changed_there}
use Rattle.mm_extents.proofs.Fields.{keeps_headers}
use Rattle.mm_extents.proofs.FileLaws.{short_file}
use Rattle.mm_records.specs.Shape.{Shape}
use Rattle.mm_records.specs.Stands.{Stands, IsOwn}
use Rattle.mm_records.specs.Map.{IsRewritten}
use Rattle.mm_records.proofs.FreeCall.{own_inside, own_behind, own_file}
use Rattle.mm_records.proofs.Rewrites.{young, stands_again, rewritten, overwritten_none}

-- what is read into a list of zeros
pub read_all : (out items file : List ℕ) (n len ofs : ℕ) → out ≡ read_from ofs (length items) file → length items ≡ n → n ≡ len → ofs + len ≤ length file → take n (out ++ drop (length out) items) ≡ part ofs len file
unfolding part
read_all out items file n len ofs e l m le =
    let is : out ≡ part ofs len file = e ∙ (λ i. part ofs ((l ∙ m) i) file) in
    let long : length out ≡ n = ap (λ (xs : List ℕ). length xs) is ∙ length-part ofs len file le ∙ sym m in
    part_first n out (drop (length out) items) long ∙ is

no_bytes : (bytes : List ℕ) → length bytes ≡ 0 → bytes ≡ []
no_bytes [] e = refl
no_bytes (b ∷ bs) e = absurd cc

module _ (image : Image) (free : List ℕ) (s : Shape) (node : ℕ) (p : Place) (own : IsOwn image free s node p) where
  pub short_room : p.1 + (16 + length own.room) ≤ 67108864
  short_room =
      let i = own_inside image free s node p own in
      let b = short_file image own.stands.files p.0 (own_file image free s node p own) in
      omega (arith, i, b)

  pub room_part : part (p.1 + 16) (length own.room) (bytes_at image p.0) ≡ own.room
  room_part = (own.stands.heap.shown p (live own.h own.room) own.here).1

  -- nothing is written
  pub none_written : (from : ℕ) (bytes : List ℕ) → length bytes ≡ 0 → from + length bytes ≤ length own.room → (t : Shape) × (Stands image free t × IsRewritten s t p (overwritten from bytes own.room))
  none_written from bytes e le =
      let same_room : overwritten from bytes own.room ≡ own.room = ap (λ (bs : List ℕ). overwritten from bs own.room) (no_bytes bytes e) ∙ overwritten_none from own.room (omega (arith, le)) in
      let now : s.heap p ≡ Some (live own.h (overwritten from bytes own.room)) = own.here ∙ ap (λ (r : List ℕ). Some (live own.h r)) (sym same_room) in
      (s, (own.stands, rewritten s p own.h own.room (overwritten from bytes own.room) (ap (λ (r : List ℕ). length r) same_room) own.here s.heap now (λ q n. refl)))

  -- some bytes are
  module _ (old new : Drafting) (from : ℕ) (bytes : List ℕ) (e : new ≡ written p.0 (p.1 + 16 + from) bytes old) (is : old.image ≡ image) (le : from + length bytes ≤ length own.room) where
    pub keeps : KeepsHeaders old.image new.image
    keeps =
        let i = own_inside image free s node p own in
        let b = own_behind image free s node p own in
        let l = ap (λ (x : Image). length (bytes_at x p.0)) is in
        keeps_headers old new p.0 (p.1 + 16 + from) (length bytes) (record { bytes = bytes; long = refl; is = e }) (own_file image free s node p own) (omega (arith, b)) (omega (arith, i, l, le))

    pub some_written : IsHeap new.image (change p (room_set from bytes) s.heap) → (t : Shape) × (Stands new.image free t × IsRewritten s t p (overwritten from bytes own.room))
    some_written heap =
        let long = length-overwritten from bytes own.room le in
        let now = changed_here p (room_set from bytes) s.heap (live own.h own.room) own.here in
        let off : (q : Place) → same p q ≡ false → change p (room_set from bytes) s.heap q ≡ s.heap q = λ q n. changed_there p q (room_set from bytes) s.heap n in (
          young s p own.h own.room (overwritten from bytes own.room) long own.here (change p (room_set from bytes) s.heap) now off,
          (
            stands_again s p own.h own.room (overwritten from bytes own.room) long own.here (change p (room_set from bytes) s.heap) now off image new.image free own.stands (subst (λ (x : Image). KeepsHeaders x new.image) is keeps) heap,
            rewritten s p own.h own.room (overwritten from bytes own.room) long own.here (change p (room_set from bytes) s.heap) now off,
          ),
        )
