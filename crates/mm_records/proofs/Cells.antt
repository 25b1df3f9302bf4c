-- What changes of links leave as it was.
use Rattle.std.proofs.Common.{◌≡◌, ℕ, ℤ, pos, negsuc, inl, inr, List, Option, Some, None, refl, ◌∙◌, ap}
use Rattle.std.proofs.lemmas.Bool.{cases_Bool}
use Rattle.std.specs.Option.{option_map}
use Rattle.mm_base.specs.Places.{null}
use Rattle.mm_base.specs.declared.place.DiskLoc.{DiskLoc}
use Rattle.mm_frames.specs.declared.extent_header.ExtentHeader.{ExtentHeader}
use Rattle.mm_frames.specs.declared.rec_header.RecHeader.{RecHeader}
use Rattle.mm_frames.specs.declared.deleted_header.DeletedHeader.{DeletedHeader}
use Rattle.mm_links.specs.Links.{Place, same}
use Rattle.mm_links.proofs.LinkLaws.{if_true, if_false}
use Rattle.mm_extents.specs.Heap.{Cell, extent, live, deleted, Heap, change}
use Rattle.mm_extents.specs.Changes.{next_set, prev_set, first_set, last_set, freed}
use Rattle.mm_extents.specs.Tiling.{outline}
use Rattle.mm_extents.specs.Chains.{ext_next, ext_prev}
use Rattle.mm_records.specs.Shape.{rec_next, rec_prev}
use Rattle.mm_records.specs.Stands.{ext_len}
use Rattle.mm_records.specs.Freeing.{forward, backward, loc_in}

-- what a function says of a cell stays where the change doesn't reach it
pub stays : {X : Type 0} (proj : Option Cell → X) (g : Cell → Cell) → ((c : Cell) → proj (Some (g c)) ≡ proj (Some c)) → (x : Place) (H : Heap) (q : Place) → proj (change x g H q) ≡ proj (H q)
stays {X} proj g law x H q = elim (cases_Bool (same x q)) [
  | inl y ↦ ap proj (if_true (same x q) (option_map g (H q)) (H q) y) ∙ opt (H q)
  | inr n ↦ ap proj (if_false (same x q) (option_map g (H q)) (H q) n)
]
  where
    opt : (o : Option Cell) → proj (option_map g o) ≡ proj o
    opt None = refl
    opt (Some c) = law c

-- a cell without its links between records
abbrev pub core : Option Cell → Option Cell
core None = None
core (Some (extent h)) = Some (extent (record h { first_record = null; last_record = null }))
core (Some (live h room)) = Some (live (record h { next_ofs = pos 0; prev_ofs = pos 0 }) room)
core (Some (deleted h rest)) = Some (deleted h rest)

abbrev pub ext_first : Option Cell → DiskLoc
ext_first None = null
ext_first (Some (extent h)) = h.first_record
ext_first (Some (live h room)) = null
ext_first (Some (deleted h rest)) = null

abbrev pub ext_last : Option Cell → DiskLoc
ext_last None = null
ext_last (Some (extent h)) = h.last_record
ext_last (Some (live h room)) = null
ext_last (Some (deleted h rest)) = null

-- a function that each kind of link change leaves alone
pub record Ignores {X : Type 0} (proj : Option Cell → X) (g : Cell → Cell) : Type 0 where
  pub law : (c : Cell) → proj (Some (g c)) ≡ proj (Some c)

pub core_next : (z : ℤ) → Ignores core (next_set z)
core_next z = record { law = at }
  where
    at : (c : Cell) → core (Some (next_set z c)) ≡ core (Some c)
    at (extent h) = refl
    at (live h room) = refl
    at (deleted h rest) = refl

pub core_prev : (z : ℤ) → Ignores core (prev_set z)
core_prev z = record { law = at }
  where
    at : (c : Cell) → core (Some (prev_set z c)) ≡ core (Some c)
    at (extent h) = refl
    at (live h room) = refl
    at (deleted h rest) = refl

pub core_first : (z : DiskLoc) → Ignores core (first_set z)
core_first z = record { law = at }
  where
    at : (c : Cell) → core (Some (first_set z c)) ≡ core (Some c)
    at (extent h) = refl
    at (live h room) = refl
    at (deleted h rest) = refl

pub core_last : (z : DiskLoc) → Ignores core (last_set z)
core_last z = record { law = at }
  where
    at : (c : Cell) → core (Some (last_set z c)) ≡ core (Some c)
    at (extent h) = refl
    at (live h room) = refl
    at (deleted h rest) = refl

pub prev_next : (z : ℤ) → Ignores rec_prev (next_set z)
prev_next z = record { law = at }
  where
    at : (c : Cell) → rec_prev (Some (next_set z c)) ≡ rec_prev (Some c)
    at (extent h) = refl
    at (live h room) = refl
    at (deleted h rest) = refl

pub prev_first : (z : DiskLoc) → Ignores rec_prev (first_set z)
prev_first z = record { law = at }
  where
    at : (c : Cell) → rec_prev (Some (first_set z c)) ≡ rec_prev (Some c)
    at (extent h) = refl
    at (live h room) = refl
    at (deleted h rest) = refl

pub next_prev : (z : ℤ) → Ignores rec_next (prev_set z)
next_prev z = record { law = at }
  where
    at : (c : Cell) → rec_next (Some (prev_set z c)) ≡ rec_next (Some c)
    at (extent h) = refl
    at (live h room) = refl
    at (deleted h rest) = refl

pub next_last : (z : DiskLoc) → Ignores rec_next (last_set z)
next_last z = record { law = at }
  where
    at : (c : Cell) → rec_next (Some (last_set z c)) ≡ rec_next (Some c)
    at (extent h) = refl
    at (live h room) = refl
    at (deleted h rest) = refl

pub next_first : (z : DiskLoc) → Ignores rec_next (first_set z)
next_first z = record { law = at }
  where
    at : (c : Cell) → rec_next (Some (first_set z c)) ≡ rec_next (Some c)
    at (extent h) = refl
    at (live h room) = refl
    at (deleted h rest) = refl

pub prev_last : (z : DiskLoc) → Ignores rec_prev (last_set z)
prev_last z = record { law = at }
  where
    at : (c : Cell) → rec_prev (Some (last_set z c)) ≡ rec_prev (Some c)
    at (extent h) = refl
    at (live h room) = refl
    at (deleted h rest) = refl

pub first_next : (z : ℤ) → Ignores ext_first (next_set z)
first_next z = record { law = at }
  where
    at : (c : Cell) → ext_first (Some (next_set z c)) ≡ ext_first (Some c)
    at (extent h) = refl
    at (live h room) = refl
    at (deleted h rest) = refl

pub first_prev : (z : ℤ) → Ignores ext_first (prev_set z)
first_prev z = record { law = at }
  where
    at : (c : Cell) → ext_first (Some (prev_set z c)) ≡ ext_first (Some c)
    at (extent h) = refl
    at (live h room) = refl
    at (deleted h rest) = refl

pub first_last : (z : DiskLoc) → Ignores ext_first (last_set z)
first_last z = record { law = at }
  where
    at : (c : Cell) → ext_first (Some (last_set z c)) ≡ ext_first (Some c)
    at (extent h) = refl
    at (live h room) = refl
    at (deleted h rest) = refl

pub last_next : (z : ℤ) → Ignores ext_last (next_set z)
last_next z = record { law = at }
  where
    at : (c : Cell) → ext_last (Some (next_set z c)) ≡ ext_last (Some c)
    at (extent h) = refl
    at (live h room) = refl
    at (deleted h rest) = refl

pub last_prev : (z : ℤ) → Ignores ext_last (prev_set z)
last_prev z = record { law = at }
  where
    at : (c : Cell) → ext_last (Some (prev_set z c)) ≡ ext_last (Some c)
    at (extent h) = refl
    at (live h room) = refl
    at (deleted h rest) = refl

pub last_first : (z : DiskLoc) → Ignores ext_last (first_set z)
last_first z = record { law = at }
  where
    at : (c : Cell) → ext_last (Some (first_set z c)) ≡ ext_last (Some c)
    at (extent h) = refl
    at (live h room) = refl
    at (deleted h rest) = refl

-- ---- what both changes round a record leave

pub forward_stays : {X : Type 0} (proj : Option Cell → X) → ((z : ℤ) → Ignores proj (next_set z)) → ((z : DiskLoc) → Ignores proj (first_set z))
    → (file ext : ℕ) (prev next : ℤ) (H : Heap) (q : Place) → proj (forward file ext prev next H q) ≡ proj (H q)
forward_stays proj a b file ext (pos x) next H q = stays proj (next_set next) (a next).law (file, x) H q
forward_stays proj a b file ext (negsuc n) next H q = stays proj (first_set (loc_in file next)) (b (loc_in file next)).law (file, ext) H q

pub backward_stays : {X : Type 0} (proj : Option Cell → X) → ((z : ℤ) → Ignores proj (prev_set z)) → ((z : DiskLoc) → Ignores proj (last_set z))
    → (file ext : ℕ) (prev next : ℤ) (H : Heap) (q : Place) → proj (backward file ext prev next H q) ≡ proj (H q)
backward_stays proj a b file ext prev (pos x) H q = stays proj (prev_set prev) (a prev).law (file, x) H q
backward_stays proj a b file ext prev (negsuc n) H q = stays proj (last_set (loc_in file prev)) (b (loc_in file prev)).law (file, ext) H q

-- ---- what a core tells of a cell

pub record LiveAt (o : Option Cell) (ext len : ℤ) (room : List ℕ) : Type 0 where
  pub h : RecHeader
  pub is : o ≡ Some (live h room)
  pub ext_is : h.extent_ofs ≡ ext
  pub len_is : h.length_with_headers ≡ len

pub live_core : (o : Option Cell) (h : RecHeader) (room : List ℕ) → core o ≡ core (Some (live h room)) → LiveAt o h.extent_ofs h.length_with_headers room
live_core None h room e = absurd cc
live_core (Some (extent g)) h room e = absurd cc
live_core (Some (live g r)) h room e =
    let same_room : r ≡ room = cc in
    let heads : record g { next_ofs = pos 0; prev_ofs = pos 0 } ≡ record h { next_ofs = pos 0; prev_ofs = pos 0 } = cc in
    record { h = g; is = ap (λ (x : List ℕ). Some (live g x)) same_room; ext_is = ap (λ (x : RecHeader). x.extent_ofs) heads; len_is = ap (λ (x : RecHeader). x.length_with_headers) heads }
live_core (Some (deleted g r)) h room e = absurd cc

pub deleted_core : (o : Option Cell) (h : DeletedHeader) (rest : List ℕ) → core o ≡ core (Some (deleted h rest)) → o ≡ Some (deleted h rest)
deleted_core None h rest e = absurd cc
deleted_core (Some (extent g)) h rest e = absurd cc
deleted_core (Some (live g r)) h rest e = absurd cc
deleted_core (Some (deleted g r)) h rest e = e

pub record ExtentAs (o : Option Cell) (like : ExtentHeader) : Type 0 where
  pub h : ExtentHeader
  pub is : o ≡ Some (extent h)
  pub name_is : h.namespace ≡ like.namespace

pub extent_core : (o : Option Cell) (h : ExtentHeader) → core o ≡ core (Some (extent h)) → ExtentAs o h
extent_core None h e = absurd cc
extent_core (Some (extent g)) h e =
    let heads : record g { first_record = null; last_record = null } ≡ record h { first_record = null; last_record = null } = cc in
    record { h = g; is = refl; name_is = ap (λ (x : ExtentHeader). x.namespace) heads }
extent_core (Some (live g r)) h e = absurd cc
extent_core (Some (deleted g r)) h e = absurd cc

pub core_ext_next : (o : Option Cell) → ext_next (core o) ≡ ext_next o
core_ext_next None = refl
core_ext_next (Some (extent h)) = refl
core_ext_next (Some (live h room)) = refl
core_ext_next (Some (deleted h rest)) = refl

pub core_ext_prev : (o : Option Cell) → ext_prev (core o) ≡ ext_prev o
core_ext_prev None = refl
core_ext_prev (Some (extent h)) = refl
core_ext_prev (Some (live h room)) = refl
core_ext_prev (Some (deleted h rest)) = refl

pub core_outline : (o : Option Cell) → option_map outline (core o) ≡ option_map outline o
core_outline None = refl
core_outline (Some (extent h)) = refl
core_outline (Some (live h room)) = refl
core_outline (Some (deleted h rest)) = refl

pub core_ext_len : (o : Option Cell) → ext_len (core o) ≡ ext_len o
core_ext_len None = refl
core_ext_len (Some (extent h)) = refl
core_ext_len (Some (live h room)) = refl
core_ext_len (Some (deleted h rest)) = refl

-- ---- freeing one

pub freed_ext_len : (z : DiskLoc) (c : Cell) → ext_len (Some (freed z c)) ≡ ext_len (Some c)
freed_ext_len z (extent h) = refl
freed_ext_len z (live h room) = refl
freed_ext_len z (deleted h rest) = refl

pub freed_ext_next : (z : DiskLoc) (c : Cell) → ext_next (Some (freed z c)) ≡ ext_next (Some c)
freed_ext_next z (extent h) = refl
freed_ext_next z (live h room) = refl
freed_ext_next z (deleted h rest) = refl

pub freed_ext_prev : (z : DiskLoc) (c : Cell) → ext_prev (Some (freed z c)) ≡ ext_prev (Some c)
freed_ext_prev z (extent h) = refl
freed_ext_prev z (live h room) = refl
freed_ext_prev z (deleted h rest) = refl

pub freed_outline : (z : DiskLoc) (c : Cell) → option_map outline (Some (freed z c)) ≡ option_map outline (Some c)
freed_outline z (extent h) = refl
freed_outline z (live h room) = refl
freed_outline z (deleted h rest) = refl
