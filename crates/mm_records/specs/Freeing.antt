-- What freeing a record makes of a shape.
use Rattle.std.specs.Prelude.{ℕ, ℤ, pos, negsuc, ◌&&◌, ◌==◌, if◌then◌else◌, List, ◌∷◌}
use Rattle.mm_base.specs.Places.{null}
use Rattle.mm_base.specs.declared.place.DiskLoc.{DiskLoc}
use Rattle.mm_frames.specs.declared.rec_header.RecHeader.{RecHeader}
use Rattle.mm_links.specs.Links.{Place, same, first_of, without}
use Rattle.mm_extents.specs.Heap.{Heap, change}
use Rattle.mm_extents.specs.Changes.{loc, loc_or, next_set, prev_set, first_set, last_set, freed}
use Rattle.mm_records.specs.Constants.{is_name}
use Rattle.mm_records.specs.Shape.{Shape, list_for}

-- a link inside a file as a place
abbrev pub loc_in : ℕ → ℤ → DiskLoc
loc_in file (pos a) = loc (file, a)
loc_in file (negsuc n) = null

-- the link to a record goes past it: in the record before it, or in the extent's header
abbrev pub forward : ℕ → ℕ → ℤ → ℤ → Heap → Heap
forward file ext (pos a) next heap = change (file, a) (next_set next) heap
forward file ext (negsuc n) next heap = change (file, ext) (first_set (loc_in file next)) heap

-- the link back to it: in the record behind it, or in the extent's header
abbrev pub backward : ℕ → ℕ → ℤ → ℤ → Heap → Heap
backward file ext prev (pos b) heap = change (file, b) (prev_set prev) heap
backward file ext prev (negsuc n) heap = change (file, ext) (last_set (loc_in file prev)) heap

abbrev pub bypassed : ℕ → ℕ → ℤ → ℤ → Heap → Heap
bypassed file ext prev next heap = backward file ext prev next (forward file ext prev next heap)

-- the record at p, of the extent at (p.0, ext) of a namespace, of this header and length, is freed
abbrev pub freed_shape : List ℕ → ℕ → Place → RecHeader → ℕ → Shape → Shape
freed_shape name ext p h len s = record s {
  heap = change p (freed (loc_or (first_of (s.lists name (list_for len))))) (bypassed p.0 ext h.prev_ofs h.next_ofs s.heap);
  records = λ e. if same e (p.0, ext) then without p (s.records e) else s.records e;
  lists = λ m i. if is_name m name && i == list_for len then p ∷ s.lists m i else s.lists m i;
}
