-- Freeing takes one pair out of one map, and leaves all others.
use Rattle.std.proofs.Common.{◌≡◌, ℕ, pos, ◌+◌, Bool, true, false, List, length, Option, Some, None, refl, sym, ◌∙◌, ap}
use Rattle.std.specs.Prelude.{if◌then◌else◌}
use Rattle.mm_base.specs.declared.place.DiskLoc.{DiskLoc}
use Rattle.mm_frames.specs.declared.extent_header.ExtentHeader.{ExtentHeader}
use Rattle.mm_frames.specs.declared.rec_header.RecHeader.{RecHeader}
use Rattle.mm_links.specs.Links.{Place, same, first_of}
use Rattle.mm_extents.specs.Heap.{Cell, extent, live, deleted}
use Rattle.mm_extents.specs.Changes.{loc_or, freed}
use Rattle.mm_extents.specs.Chains.{ExtentsStand}
use Rattle.mm_frames.specs.Texts.{text_in}
use Rattle.mm_records.specs.Constants.{is_name}
use Rattle.mm_records.specs.Shape.{Shape, list_for}
use Rattle.mm_records.specs.Stands.{RecordsStand, ListsStand}
use Rattle.mm_records.specs.Freeing.{bypassed, freed_shape}
use Rattle.mm_records.specs.Map.{extent_of, owner, live_room, live_at}
use Rattle.mm_records.proofs.Cells.{core, stays}
use Rattle.mm_records.proofs.FreedStands.{cores, other, new_here}

core_owner : (o : Option Cell) → owner (core o) ≡ owner o
core_owner None = refl
core_owner (Some (extent h)) = refl
core_owner (Some (live h room)) = refl
core_owner (Some (deleted h rest)) = refl

freed_owner : (z : DiskLoc) (c : Cell) → owner (Some (freed z c)) ≡ owner (Some c)
freed_owner z (extent h) = refl
freed_owner z (live h room) = refl
freed_owner z (deleted h rest) = refl

core_room : (o : Option Cell) → live_room (core o) ≡ live_room o
core_room None = refl
core_room (Some (extent h)) = refl
core_room (Some (live h room)) = refl
core_room (Some (deleted h rest)) = refl

core_extent : (p : Place) (o : Option Cell) → extent_of p (core o) ≡ extent_of p o
core_extent p None = refl
core_extent p (Some (extent h)) = refl
core_extent p (Some (live h room)) = refl
core_extent p (Some (deleted h rest)) = refl

none_either : {A : Type 0} (b : Bool) (o : Option A) → o ≡ None → (if b then o else None) ≡ None
none_either true o e = e
none_either false o e = refl

module _ {free : List ℕ} (s : Shape) (p : Place) (h : RecHeader) (room : List ℕ) (a : ℕ) (hh : ExtentHeader) (es : ExtentsStand s.heap s.extents) (rs : RecordsStand free s) (ls : ListsStand s)
    (here : s.heap p ≡ Some (live h room)) (ext : h.extent_ofs ≡ pos a) (there : s.heap (p.0, a) ≡ Some (extent hh)) where
  abbrev new : Shape
  new = freed_shape (text_in hh.namespace) a p h (16 + length room) s

  owners : (q : Place) → owner (new.heap q) ≡ owner (s.heap q)
  owners q =
      stays owner (freed (loc_or (first_of (s.lists (text_in hh.namespace) (list_for (16 + length room)))))) (freed_owner (loc_or (first_of (s.lists (text_in hh.namespace) (list_for (16 + length room)))))) p (bypassed p.0 a h.prev_ofs h.next_ofs s.heap) q
      ∙ sym (core_owner (bypassed p.0 a h.prev_ofs h.next_ofs s.heap q)) ∙ ap owner (cores s p h room a hh es rs ls here ext there q) ∙ core_owner (s.heap q)

  -- it isn't there any more
  pub taken_out : (m : List ℕ) → live_at new m p ≡ None
  taken_out m = none_either (is_name (owner (new.heap (extent_of p (new.heap p)))) m) (live_room (new.heap p)) (ap live_room (new_here s p h room a hh es rs ls here ext there))

  -- all others are as they were, of every namespace
  pub others_stay : (m : List ℕ) (q : Place) → same p q ≡ false → live_at new m q ≡ live_at s m q
  others_stay m q ne =
      let c = other s p h room a hh es rs ls here ext there q ne in
      let rooms : live_room (new.heap q) ≡ live_room (s.heap q) = sym (core_room (new.heap q)) ∙ ap live_room c ∙ core_room (s.heap q) in
      let places : extent_of q (new.heap q) ≡ extent_of q (s.heap q) = sym (core_extent q (new.heap q)) ∙ ap (extent_of q) c ∙ core_extent q (s.heap q) in
      let names : owner (new.heap (extent_of q (new.heap q))) ≡ owner (s.heap (extent_of q (s.heap q))) = owners (extent_of q (new.heap q)) ∙ ap (λ (x : Place). owner (s.heap x)) places in
      λ i. if is_name (names i) m then rooms i else None
