-- Deleted blocks that get another link or become records, and records that are cut in two.
use Rattle.std.proofs.Common.{◌≡◌, ℕ, ℤ, pos, ◌+◌, ◌-◌, ◌≤◌, List, length, take, drop, Some, refl, sym, ◌∙◌, ap, arith, length-drop}
use Rattle.std.proofs.lemmas.List.{drop-take, drop-drop, take-take, length-take-le}
use Rattle.mm_base.specs.Bytes.{part, overwritten}
use Rattle.mm_base.proofs.Parts.{length-overwritten, part-overwritten, part_before, part_behind}
use Rattle.mm_base.specs.declared.place.DiskLoc.{DiskLoc}
use Rattle.mm_ranges.specs.Overlay.{Image, bytes_at, laid}
use Rattle.mm_frames.specs.RecHeader.{rec_header_of}
use Rattle.mm_frames.specs.DeletedHeader.{deleted_header_of}
use Rattle.mm_frames.specs.declared.rec_header.RecHeader.{RecHeader}
use Rattle.mm_frames.specs.declared.deleted_header.DeletedHeader.{DeletedHeader}
use Rattle.mm_links.specs.Links.{Place}
use Rattle.mm_extents.specs.Heap.{live, deleted, size, Heap, IsHeap, change}
use Rattle.mm_extents.specs.Changes.{deleted_next_set, taken, front_of, rest_of, behind_of, put_two}
use Rattle.mm_extents.proofs.Writes.{laid_here, laid_elsewhere}
use Rattle.mm_extents.proofs.Fields.{head_there, rest_there, front_changed}
use Rattle.mm_extents.proofs.Within.{SameBut, IsNew, outside_of, two_within}

-- the first two fields of both headers are the same
rec_of_del : (bytes : List ℕ) (a b : ℤ) (h : DeletedHeader) → deleted_header_of bytes ≡ h
    → record (rec_header_of bytes) { next_ofs = a; prev_ofs = b } ≡ record { length_with_headers = h.length_with_headers; extent_ofs = h.extent_ofs; next_ofs = a; prev_ofs = b }
unfolding rec_header_of deleted_header_of
rec_of_del bytes a b h e = λ i. record { length_with_headers = (e i).length_with_headers; extent_ofs = (e i).extent_ofs; next_ofs = a; prev_ofs = b }

-- a deleted block, changed in its first sixteen bytes
module _ (image : Image) (heap : Heap) (p : Place) (h : DeletedHeader) (rest bytes : List ℕ) (is : IsHeap image heap) (here : heap p ≡ Some (deleted h rest)) (long : length bytes ≡ 16) where
  inside16 : p.1 + 16 ≤ length (bytes_at image p.0)
  inside16 = let a = is.inside p (deleted h rest) here in omega (arith, a)

  rest_stays : part (p.1 + 16) (length rest) (bytes_at (laid p.0 p.1 bytes image) p.0) ≡ rest
  rest_stays = rest_there image p bytes 16 long inside16 (length rest) ∙ (is.shown p (deleted h rest) here).1

  fits16 : length bytes ≤ size (deleted h rest)
  fits16 = omega (arith, long)

  pub relinked_written : (z : DiskLoc) → deleted_header_of bytes ≡ record (deleted_header_of (part p.1 16 (bytes_at image p.0))) { next_deleted = z } → IsHeap (laid p.0 p.1 bytes image) (change p (deleted_next_set z) heap)
  relinked_written z again = front_changed image heap p (deleted h rest) (deleted_next_set z) bytes is here refl fits16
      (ap deleted_header_of (head_there image p bytes 16 long inside16) ∙ again ∙ ap (λ (x : DeletedHeader). record x { next_deleted = z }) (is.shown p (deleted h rest) here).0, rest_stays)

  pub taken_written : (a b : ℤ) → rec_header_of bytes ≡ record (rec_header_of (part p.1 16 (bytes_at image p.0))) { next_ofs = a; prev_ofs = b } → IsHeap (laid p.0 p.1 bytes image) (change p (taken a b) heap)
  taken_written a b again = front_changed image heap p (deleted h rest) (taken a b) bytes is here refl fits16
      (ap rec_header_of (head_there image p bytes 16 long inside16) ∙ again ∙ rec_of_del (part p.1 16 (bytes_at image p.0)) a b h (is.shown p (deleted h rest) here).0, rest_stays)

-- ---- a record in two parts

take_part : (m a n : ℕ) (xs : List ℕ) → m ≤ n → take m (part a n xs) ≡ part a m xs
unfolding part
take_part m a n xs le = take-take m n (drop a xs) le

drop_part : (k m a : ℕ) (xs : List ℕ) → drop k (part a (k + m) xs) ≡ part (a + k) m xs
unfolding part
drop_part k m a xs = drop-take k m (drop a xs) ∙ ap (take m) (drop-drop k a xs)

module _ (image : Image) (heap : Heap) (p : Place) (h : RecHeader) (room : List ℕ) (is : IsHeap image heap) (here : heap p ≡ Some (live h room))
    (r : ℕ) (db rb : List ℕ) (d : DeletedHeader) (dlong : length db ≡ 16) (rlong : length rb ≡ 16) (some : 16 ≤ r) (fits : r ≤ length room)
    (dh : deleted_header_of db ≡ d) (rh : rec_header_of rb ≡ record h { length_with_headers = pos r }) where
  abbrev image1 : Image
  image1 = laid p.0 (p.1 + r) db image

  abbrev image2 : Image
  image2 = laid p.0 p.1 rb image1

  abbrev n : ℕ
  n = 16 + length room

  inside : p.1 + (16 + length room) ≤ length (bytes_at image p.0)
  inside = is.inside p (live h room) here

  first : bytes_at image1 p.0 ≡ overwritten (p.1 + r) db (bytes_at image p.0)
  first = laid_here image p.0 (p.1 + r) db (omega (arith, inside, fits))

  long1 : length (bytes_at image1 p.0) ≡ length (bytes_at image p.0)
  long1 = ap length first ∙ length-overwritten (p.1 + r) db (bytes_at image p.0) (omega (arith, inside, fits, dlong))

  second : bytes_at image2 p.0 ≡ overwritten p.1 rb (bytes_at image1 p.0)
  second = laid_here image1 p.0 p.1 rb (omega (arith, inside, long1))

  long2 : length (bytes_at image2 p.0) ≡ length (bytes_at image p.0)
  long2 = ap length second ∙ length-overwritten p.1 rb (bytes_at image1 p.0) (omega (arith, inside, long1, rlong)) ∙ long1

  head_stays : (q m : ℕ) → p.1 + 16 ≤ q → part q m (bytes_at image2 p.0) ≡ part q m (bytes_at image1 p.0)
  head_stays q m le = ap (part q m) second ∙ part_behind q m p.1 rb (bytes_at image1 p.0) (omega (arith, le, rlong)) (omega (arith, inside, long1))

  before1 : (q m : ℕ) → q + m ≤ p.1 + r → part q m (bytes_at image1 p.0) ≡ part q m (bytes_at image p.0)
  before1 q m le = ap (part q m) first ∙ part_before q m (p.1 + r) db (bytes_at image p.0) le (omega (arith, inside, fits))

  behind1 : (q m : ℕ) → p.1 + r + 16 ≤ q → part q m (bytes_at image1 p.0) ≡ part q m (bytes_at image p.0)
  behind1 q m le = ap (part q m) first ∙ part_behind q m (p.1 + r) db (bytes_at image p.0) (omega (arith, le, dlong)) (omega (arith, inside, fits))

  same_but : SameBut p n image image2
  same_but = record {
    elsewhere = λ f ne. laid_elsewhere image1 p.0 p.1 f rb ne ∙ laid_elsewhere image p.0 (p.1 + r) f db ne;
    long = long2;
    before = λ q m le. ap (part q m) second ∙ part_before q m p.1 rb (bytes_at image1 p.0) le (omega (arith, inside, long1)) ∙ before1 q m (omega (arith, le));
    behind = λ q m le. head_stays q m (omega (arith, le)) ∙ behind1 q m (omega (arith, le, fits));
  }

  old_room : part (p.1 + 16) (length room) (bytes_at image p.0) ≡ room
  old_room = (is.shown p (live h room) here).1

  front_long : length (take (r - 16) room) ≡ r - 16
  front_long = length-take-le (r - 16) room (omega (arith, fits))

  front_room : part (p.1 + 16) (length (take (r - 16) room)) (bytes_at image2 p.0) ≡ take (r - 16) room
  front_room = ap (λ (m : ℕ). part (p.1 + 16) m (bytes_at image2 p.0)) front_long ∙ head_stays (p.1 + 16) (r - 16) (omega arith) ∙ before1 (p.1 + 16) (r - 16) (omega (arith, some))
      ∙ sym (take_part (r - 16) (p.1 + 16) (length room) (bytes_at image p.0) (omega (arith, fits))) ∙ ap (take (r - 16)) old_room

  rest_long : length (drop r room) ≡ length room - r
  rest_long = length-drop r room

  rest_room : part (p.1 + r + 16) (length (drop r room)) (bytes_at image2 p.0) ≡ drop r room
  rest_room =
      let at : p.1 + r + 16 ≡ p.1 + 16 + r = omega arith in
      let whole : r + (length room - r) ≡ length room = omega (arith, fits) in
      ap (λ (m : ℕ). part (p.1 + r + 16) m (bytes_at image2 p.0)) rest_long ∙ head_stays (p.1 + r + 16) (length room - r) (omega arith) ∙ behind1 (p.1 + r + 16) (length room - r) (omega arith)
      ∙ ap (λ (a : ℕ). part a (length room - r) (bytes_at image p.0)) at ∙ sym (drop_part r (length room - r) (p.1 + 16) (bytes_at image p.0))
      ∙ ap (λ (m : ℕ). drop r (part (p.1 + 16) m (bytes_at image p.0))) whole ∙ ap (drop r) old_room

  front_new : IsNew p n image2 p (front_of r h room)
  front_new = record {
    file = refl;
    from = omega arith;
    to = omega (arith, front_long, fits, some);
    shows = (ap rec_header_of (ap (part p.1 16) second ∙ part-overwritten p.1 16 rb (bytes_at image1 p.0) (omega (arith, inside, long1)) rlong) ∙ rh, front_room);
  }

  rest_new : IsNew p n image2 (behind_of p r) (rest_of r d room)
  rest_new = record {
    file = refl;
    from = omega arith;
    to = omega (arith, rest_long, fits, some);
    shows = (ap deleted_header_of (head_stays (p.1 + r) 16 (omega (arith, some)) ∙ ap (part (p.1 + r) 16) first ∙ part-overwritten (p.1 + r) 16 db (bytes_at image p.0) (omega (arith, inside, fits)) dlong) ∙ dh, rest_room);
  }

  pub split_written : IsHeap (laid p.0 p.1 rb (laid p.0 (p.1 + r) db image)) (put_two p (front_of r h room) (behind_of p r) (rest_of r d room) heap)
  split_written = two_within image image2 heap p n is same_but (is.data_file p (live h room) here) (is.behind_header p (live h room) here) inside (behind_of p r) (front_of r h room) (rest_of r d room) refl front_new rest_new
      (omega (arith, front_long, some)) (λ q x e m _ file. outside_of image heap p q (live h room) x is here e m file)

-- a file is as long as before, where bytes are written inside it
pub long_laid : (image : Image) (file at : ℕ) (bytes : List ℕ) → at + length bytes ≤ length (bytes_at image file) → length (bytes_at (laid file at bytes image) file) ≡ length (bytes_at image file)
long_laid image file at bytes le = ap length (laid_here image file at bytes (omega (arith, le))) ∙ length-overwritten at bytes (bytes_at image file) le
