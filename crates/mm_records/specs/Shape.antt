-- What the data files hold, as values.
use Rattle.std.specs.Prelude.{ℕ, ℤ, pos, ◌*◌, ◌^◌, if◌then◌else◌, nat_lt, zero, suc, List, Option, Some, None}
use Rattle.mm_links.specs.Links.{Place}
use Rattle.mm_extents.specs.Heap.{Cell, extent, live, deleted, Heap}

-- What stands at each place; the extents of a namespace, those of the free chain under its name, in the order of their chain; the
-- live records of an extent, in the order of its chain; and the deleted blocks of a namespace, list by list, in their order.
pub record Shape : Type 0 where
  pub heap : Heap
  pub extents : List ℕ → List Place
  pub records : Place → List Place
  pub lists : List ℕ → ℕ → List Place

-- the list of a block, from list i on, of which n more follow
abbrev pub list_from : ℕ → ℕ → ℕ → ℕ
list_from i zero len = i
list_from i (suc n) len = if nat_lt len (32 * 2 ^ i) then i else list_from (suc i) n len

-- the first of the nineteen lists whose size is greater, else the last
unfoldable pub list_for : ℕ → ℕ
list_for len = list_from 0 18 len

-- ---- links

abbrev pub rec_next : Option Cell → ℤ
rec_next None = pos 0
rec_next (Some (extent h)) = pos 0
rec_next (Some (live h room)) = h.next_ofs
rec_next (Some (deleted h rest)) = pos 0

abbrev pub rec_prev : Option Cell → ℤ
rec_prev None = pos 0
rec_prev (Some (extent h)) = pos 0
rec_prev (Some (live h room)) = h.prev_ofs
rec_prev (Some (deleted h rest)) = pos 0
