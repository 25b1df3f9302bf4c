-- What stands at one place, with a new header.
use Rattle.std.proofs.Common.{◌≡◌, ℕ, ℤ, ◌+◌, ◌<◌, ◌≤◌, ◌⊎◌, inl, inr, Bool, true, false, List, length, Some, refl, sym, ◌∙◌, ap, subst, arith}
use Rattle.std.proofs.lemmas.Bool.{cases_Bool, eqb-true}
use Rattle.std.specs.Prelude.{◌==◌}
use Rattle.mm_base.specs.Bytes.{part, overwritten}
use Rattle.mm_base.proofs.Parts.{length-part, length-overwritten, part-overwritten, part_before, part_behind, part_whole, part_around}
use Rattle.mm_base.specs.declared.place.DiskLoc.{DiskLoc}
use Rattle.mm_ranges.specs.Bytes.{read_from}
use Rattle.mm_ranges.specs.Overlay.{Image, bytes_at, laid}
use Rattle.mm_frames.specs.ExtentHeader.{extent_header_of}
use Rattle.mm_frames.specs.RecHeader.{rec_header_of}
use Rattle.mm_frames.specs.DeletedHeader.{deleted_header_of}
use Rattle.mm_frames.specs.declared.extent_header.ExtentHeader.{ExtentHeader}
use Rattle.mm_frames.specs.declared.rec_header.RecHeader.{RecHeader}
use Rattle.mm_views.specs.State.{Drafting}
use Rattle.mm_links.specs.Links.{Place}
use Rattle.mm_extents.specs.Heap.{Cell, extent, live, size, Heap, Shows, IsHeap, change}
use Rattle.mm_ranges.specs.declared.limits.TheConstants.{NS_FILE}
use Rattle.mm_extents.specs.Changes.{IsWritten, KeepsHeaders, len_of, next_set, prev_set, first_set, last_set, xnext_set, xprev_set, room_set, freed}
use Rattle.mm_extents.proofs.Writes.{laid_here, laid_elsewhere, len_laid, heap_changed}

pub read_part : (a m : ℕ) (xs : List ℕ) → read_from a m xs ≡ part a m xs
unfolding part
read_part a m xs = refl

-- what a reader of a whole frame gives
pub read_is : {X : Type 0} (of : List ℕ → X) (a n : ℕ) (xs buf : List ℕ) (r : X) → a + n ≤ length xs → buf ≡ read_from a n xs → r ≡ of (part 0 n buf) → r ≡ of (part a n xs)
read_is of a n xs buf r le e f = f ∙ ap of (ap (part 0 n) (e ∙ read_part a n xs) ∙ part_whole n (part a n xs) (length-of a n xs le))
  where
    length-of : (a n : ℕ) (xs : List ℕ) → a + n ≤ length xs → length (part a n xs) ≡ n
    length-of a n xs le = length-part a n xs le

-- what a writer of one field makes of a frame that was read
pub field_is : {X : Type 0} (of : List ℕ → X) (g : X → X) (a n : ℕ) (xs buf new : List ℕ) → a + n ≤ length xs → buf ≡ read_from a n xs → length new ≡ n → of (part 0 n new) ≡ g (of (part 0 n buf)) → of new ≡ g (of (part a n xs))
field_is of g a n xs buf new le e long f = ap of (sym (part_whole n new long)) ∙ f ∙ ap g (read_is of a n xs buf (of (part 0 n buf)) le e refl)

-- the first two fields of both headers are the same
pub del_of_rec : (bytes : List ℕ) (z : DiskLoc) (h : RecHeader) → rec_header_of bytes ≡ h → record (deleted_header_of bytes) { next_deleted = z } ≡ record { length_with_headers = h.length_with_headers; extent_ofs = h.extent_ofs; next_deleted = z }
unfolding rec_header_of deleted_header_of
del_of_rec bytes z h e = λ i. record { length_with_headers = (e i).length_with_headers; extent_ofs = (e i).extent_ofs; next_deleted = z }

module _ (image : Image) (p : Place) (bytes : List ℕ) (n : ℕ) (long : length bytes ≡ n) (inside : p.1 + n ≤ length (bytes_at image p.0)) where
  pub head_there : part p.1 n (bytes_at (laid p.0 p.1 bytes image) p.0) ≡ bytes
  head_there = ap (part p.1 n) (laid_here image p.0 p.1 bytes (omega arith)) ∙ part-overwritten p.1 n bytes (bytes_at image p.0) (omega arith) long

  pub rest_there : (m : ℕ) → part (p.1 + n) m (bytes_at (laid p.0 p.1 bytes image) p.0) ≡ part (p.1 + n) m (bytes_at image p.0)
  rest_there m = ap (part (p.1 + n) m) (laid_here image p.0 p.1 bytes (omega arith)) ∙ part_behind (p.1 + n) m p.1 bytes (bytes_at image p.0) (omega (arith, long)) (omega arith)

-- a change at the front of a cell
pub front_changed : (image : Image) (heap : Heap) (p : Place) (c : Cell) (g : Cell → Cell) (bytes : List ℕ)
    → IsHeap image heap → heap p ≡ Some c → size (g c) ≡ size c → length bytes ≤ size c
    → Shows (bytes_at (laid p.0 p.1 bytes image) p.0) p.1 (g c) → IsHeap (laid p.0 p.1 bytes image) (change p g heap)
front_changed image heap p c g bytes is here sizes fits shows =
    let e : p.1 + 0 ≡ p.1 = omega arith in
    subst (λ (at : ℕ). IsHeap (laid p.0 at bytes image) (change p g heap)) e
    (heap_changed image heap p c g 0 bytes is here sizes (omega (arith, fits)) (subst (λ (at : ℕ). Shows (bytes_at (laid p.0 at bytes image) p.0) p.1 (g c)) (sym e) shows))

-- a live record, changed in the first sixteen bytes
module _ (image : Image) (heap : Heap) (p : Place) (h : RecHeader) (room bytes : List ℕ) (is : IsHeap image heap) (here : heap p ≡ Some (live h room)) (long : length bytes ≡ 16) where
  inside16 : p.1 + 16 ≤ length (bytes_at image p.0)
  inside16 = let a = is.inside p (live h room) here in omega (arith, a)

  room_stays : part (p.1 + 16) (length room) (bytes_at (laid p.0 p.1 bytes image) p.0) ≡ room
  room_stays = rest_there image p bytes 16 long inside16 (length room) ∙ (is.shown p (live h room) here).1

  fits16 : length bytes ≤ size (live h room)
  fits16 = omega (arith, long)

  pub next_written : (z : ℤ) → rec_header_of bytes ≡ record (rec_header_of (part p.1 16 (bytes_at image p.0))) { next_ofs = z } → IsHeap (laid p.0 p.1 bytes image) (change p (next_set z) heap)
  next_written z again = front_changed image heap p (live h room) (next_set z) bytes is here refl fits16
      (ap rec_header_of (head_there image p bytes 16 long inside16) ∙ again ∙ ap (λ (x : RecHeader). record x { next_ofs = z }) (is.shown p (live h room) here).0, room_stays)

  pub prev_written : (z : ℤ) → rec_header_of bytes ≡ record (rec_header_of (part p.1 16 (bytes_at image p.0))) { prev_ofs = z } → IsHeap (laid p.0 p.1 bytes image) (change p (prev_set z) heap)
  prev_written z again = front_changed image heap p (live h room) (prev_set z) bytes is here refl fits16
      (ap rec_header_of (head_there image p bytes 16 long inside16) ∙ again ∙ ap (λ (x : RecHeader). record x { prev_ofs = z }) (is.shown p (live h room) here).0, room_stays)

  pub freed_written : (z : DiskLoc) → deleted_header_of bytes ≡ record (deleted_header_of (part p.1 16 (bytes_at image p.0))) { next_deleted = z } → IsHeap (laid p.0 p.1 bytes image) (change p (freed z) heap)
  freed_written z again = front_changed image heap p (live h room) (freed z) bytes is here refl fits16
      (ap deleted_header_of (head_there image p bytes 16 long inside16) ∙ again ∙ del_of_rec (part p.1 16 (bytes_at image p.0)) z h (is.shown p (live h room) here).0, room_stays)

-- an extent's header
module _ (image : Image) (heap : Heap) (p : Place) (h : ExtentHeader) (bytes : List ℕ) (is : IsHeap image heap) (here : heap p ≡ Some (extent h)) (long : length bytes ≡ 176) where
  pub first_written : (z : DiskLoc) → extent_header_of bytes ≡ record (extent_header_of (part p.1 176 (bytes_at image p.0))) { first_record = z } → IsHeap (laid p.0 p.1 bytes image) (change p (first_set z) heap)
  first_written z again = front_changed image heap p (extent h) (first_set z) bytes is here refl (omega (arith, long))
      (ap extent_header_of (head_there image p bytes 176 long (is.inside p (extent h) here)) ∙ again ∙ ap (λ (x : ExtentHeader). record x { first_record = z }) (is.shown p (extent h) here))

  pub last_written : (z : DiskLoc) → extent_header_of bytes ≡ record (extent_header_of (part p.1 176 (bytes_at image p.0))) { last_record = z } → IsHeap (laid p.0 p.1 bytes image) (change p (last_set z) heap)
  last_written z again = front_changed image heap p (extent h) (last_set z) bytes is here refl (omega (arith, long))
      (ap extent_header_of (head_there image p bytes 176 long (is.inside p (extent h) here)) ∙ again ∙ ap (λ (x : ExtentHeader). record x { last_record = z }) (is.shown p (extent h) here))

  pub xnext_written : (z : DiskLoc) → extent_header_of bytes ≡ record (extent_header_of (part p.1 176 (bytes_at image p.0))) { xnext = z } → IsHeap (laid p.0 p.1 bytes image) (change p (xnext_set z) heap)
  xnext_written z again = front_changed image heap p (extent h) (xnext_set z) bytes is here refl (omega (arith, long))
      (ap extent_header_of (head_there image p bytes 176 long (is.inside p (extent h) here)) ∙ again ∙ ap (λ (x : ExtentHeader). record x { xnext = z }) (is.shown p (extent h) here))

  pub xprev_written : (z : DiskLoc) → extent_header_of bytes ≡ record (extent_header_of (part p.1 176 (bytes_at image p.0))) { xprev = z } → IsHeap (laid p.0 p.1 bytes image) (change p (xprev_set z) heap)
  xprev_written z again = front_changed image heap p (extent h) (xprev_set z) bytes is here refl (omega (arith, long))
      (ap extent_header_of (head_there image p bytes 176 long (is.inside p (extent h) here)) ∙ again ∙ ap (λ (x : ExtentHeader). record x { xprev = z }) (is.shown p (extent h) here))

-- some bytes inside a live record's room
pub room_written : (image : Image) (heap : Heap) (p : Place) (h : RecHeader) (room bytes : List ℕ) (k : ℕ) → IsHeap image heap → heap p ≡ Some (live h room) → k + length bytes ≤ length room
    → IsHeap (laid p.0 (p.1 + 16 + k) bytes image) (change p (room_set k bytes) heap)
room_written image heap p h room bytes k is here fits =
    let e : p.1 + (16 + k) ≡ p.1 + 16 + k = omega arith in
    let inside = is.inside p (live h room) here in
    let shows = is.shown p (live h room) here in
    let long : length (overwritten k bytes room) ≡ length room = length-overwritten k bytes room fits in
    let new : bytes_at (laid p.0 (p.1 + (16 + k)) bytes image) p.0 ≡ overwritten (p.1 + (16 + k)) bytes (bytes_at image p.0) = laid_here image p.0 (p.1 + (16 + k)) bytes (omega (arith, inside, fits)) in
    let head : part p.1 16 (bytes_at (laid p.0 (p.1 + (16 + k)) bytes image) p.0) ≡ part p.1 16 (bytes_at image p.0) =
    ap (part p.1 16) new ∙ part_before p.1 16 (p.1 + (16 + k)) bytes (bytes_at image p.0) (omega arith) (omega (arith, inside, fits)) in
    let at : p.1 + (16 + k) ≡ (p.1 + 16) + k = omega arith in
    let around : part (p.1 + 16) (length room) (overwritten (p.1 + (16 + k)) bytes (bytes_at image p.0)) ≡ overwritten k bytes (part (p.1 + 16) (length room) (bytes_at image p.0)) =
    ap (λ (a : ℕ). part (p.1 + 16) (length room) (overwritten a bytes (bytes_at image p.0))) at ∙ part_around (p.1 + 16) (length room) k bytes (bytes_at image p.0) fits (omega (arith, inside)) in
    let rest : part (p.1 + 16) (length (overwritten k bytes room)) (bytes_at (laid p.0 (p.1 + (16 + k)) bytes image) p.0) ≡ overwritten k bytes room =
    ap (λ (n : ℕ). part (p.1 + 16) n (bytes_at (laid p.0 (p.1 + (16 + k)) bytes image) p.0)) long ∙ ap (part (p.1 + 16) (length room)) new ∙ around ∙ ap (overwritten k bytes) shows.1 in
    let same_size : size (room_set k bytes (live h room)) ≡ size (live h room) = omega (arith, long) in
    subst (λ (a : ℕ). IsHeap (laid p.0 a bytes image) (change p (room_set k bytes) heap)) e
    (heap_changed image heap p (live h room) (room_set k bytes) (16 + k) bytes is here same_size (omega (arith, fits)) (ap rec_header_of head ∙ shows.0, rest))

-- what is written behind a data file's header
pub keeps_headers : (old new : Drafting) (file at n : ℕ) → IsWritten file at n old new → file < 8 → 8192 ≤ at → at + n ≤ length (bytes_at old.image file) → KeepsHeaders old.image new.image
keeps_headers old new file at n w data_file behind inside = record {
  lengths = λ f. let long = w.long in ap (λ (d : Drafting). len_of d.image f) w.is ∙ len_laid old.image file at w.bytes f (omega (arith, behind)) (omega (arith, long, inside));
  ns = ap (λ (d : Drafting). bytes_at d.image NS_FILE) w.is ∙ laid_elsewhere old.image file at NS_FILE w.bytes (other_file (NS_FILE == file) refl);
  headers = λ f. ap (λ (d : Drafting). part 0 8192 (bytes_at d.image f)) w.is ∙ by f (cases_Bool (f == file));
}
  where
    other_file : (b : Bool) → (NS_FILE == file) ≡ b → (NS_FILE == file) ≡ false
    other_file false e = e
    other_file true e = absurd (let f : NS_FILE ≡ file = eqb-true NS_FILE file e in omega (arith, f, data_file))

    by : (f : ℕ) → ((f == file) ≡ true) ⊎ ((f == file) ≡ false) → part 0 8192 (bytes_at (laid file at w.bytes old.image) f) ≡ part 0 8192 (bytes_at old.image f)
    by f (inl y) =
        ap (λ (g : ℕ). part 0 8192 (bytes_at (laid file at w.bytes old.image) g)) (eqb-true f file y)
        ∙ ap (part 0 8192) (laid_here old.image file at w.bytes (omega (arith, inside)))
        ∙ part_before 0 8192 at w.bytes (bytes_at old.image file) (omega (arith, behind)) (omega (arith, inside))
        ∙ ap (λ (g : ℕ). part 0 8192 (bytes_at old.image g)) (sym (eqb-true f file y))
    by f (inr n) = ap (part 0 8192) (laid_elsewhere old.image file at f w.bytes n)

pub keeps_both : (a b c : Image) → KeepsHeaders a b → KeepsHeaders b c → KeepsHeaders a c
keeps_both a b c x y = record { lengths = λ f. y.lengths f ∙ x.lengths f; ns = y.ns ∙ x.ns; headers = λ f. y.headers f ∙ x.headers f }
