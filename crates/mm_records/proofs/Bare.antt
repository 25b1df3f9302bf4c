-- Cells without their links.
use Rattle.std.proofs.Common.{◌≡◌, ℕ, ℤ, pos, List, Option, Some, None, refl, ap}
use Rattle.std.specs.Option.{option_map}
use Rattle.mm_base.specs.Places.{null}
use Rattle.mm_base.specs.declared.place.DiskLoc.{DiskLoc}
use Rattle.mm_frames.specs.declared.extent_header.ExtentHeader.{ExtentHeader}
use Rattle.mm_frames.specs.declared.rec_header.RecHeader.{RecHeader}
use Rattle.mm_frames.specs.declared.deleted_header.DeletedHeader.{DeletedHeader}
use Rattle.mm_links.specs.Links.{Place}
use Rattle.mm_extents.specs.Heap.{Cell, extent, live, deleted, Heap}
use Rattle.mm_extents.specs.Changes.{next_set, first_set, last_set, deleted_next_set}
use Rattle.mm_extents.specs.Tiling.{outline}
use Rattle.mm_extents.specs.Chains.{ext_next, ext_prev}
use Rattle.mm_records.specs.Shape.{rec_next, rec_prev}
use Rattle.mm_records.specs.Stands.{ext_len, room_of}
use Rattle.mm_records.specs.Taking.{list_passed}
use Rattle.mm_records.proofs.Cells.{Ignores, stays, LiveAt, ext_first, ext_last}

-- a cell without its links between records and between deleted blocks
abbrev pub bare : Option Cell → Option Cell
bare None = None
bare (Some (extent h)) = Some (extent (record h { first_record = null; last_record = null }))
bare (Some (live h room)) = Some (live (record h { next_ofs = pos 0; prev_ofs = pos 0 }) room)
bare (Some (deleted h rest)) = Some (deleted (record h { next_deleted = null }) rest)

abbrev pub block_next : Option Cell → DiskLoc
block_next None = null
block_next (Some (extent h)) = null
block_next (Some (live h room)) = null
block_next (Some (deleted h rest)) = h.next_deleted

-- ---- what each change leaves

pub bare_next : (z : ℤ) → Ignores bare (next_set z)
bare_next z = record { law = at }
  where
    at : (c : Cell) → bare (Some (next_set z c)) ≡ bare (Some c)
    at (extent h) = refl
    at (live h room) = refl
    at (deleted h rest) = refl

pub bare_first : (z : DiskLoc) → Ignores bare (first_set z)
bare_first z = record { law = at }
  where
    at : (c : Cell) → bare (Some (first_set z c)) ≡ bare (Some c)
    at (extent h) = refl
    at (live h room) = refl
    at (deleted h rest) = refl

pub bare_last : (z : DiskLoc) → Ignores bare (last_set z)
bare_last z = record { law = at }
  where
    at : (c : Cell) → bare (Some (last_set z c)) ≡ bare (Some c)
    at (extent h) = refl
    at (live h room) = refl
    at (deleted h rest) = refl

pub bare_relinked : (z : DiskLoc) → Ignores bare (deleted_next_set z)
bare_relinked z = record { law = at }
  where
    at : (c : Cell) → bare (Some (deleted_next_set z c)) ≡ bare (Some c)
    at (extent h) = refl
    at (live h room) = refl
    at (deleted h rest) = refl

pub next_relinked : (z : DiskLoc) → Ignores rec_next (deleted_next_set z)
next_relinked z = record { law = at }
  where
    at : (c : Cell) → rec_next (Some (deleted_next_set z c)) ≡ rec_next (Some c)
    at (extent h) = refl
    at (live h room) = refl
    at (deleted h rest) = refl

pub prev_relinked : (z : DiskLoc) → Ignores rec_prev (deleted_next_set z)
prev_relinked z = record { law = at }
  where
    at : (c : Cell) → rec_prev (Some (deleted_next_set z c)) ≡ rec_prev (Some c)
    at (extent h) = refl
    at (live h room) = refl
    at (deleted h rest) = refl

pub first_relinked : (z : DiskLoc) → Ignores ext_first (deleted_next_set z)
first_relinked z = record { law = at }
  where
    at : (c : Cell) → ext_first (Some (deleted_next_set z c)) ≡ ext_first (Some c)
    at (extent h) = refl
    at (live h room) = refl
    at (deleted h rest) = refl

pub last_relinked : (z : DiskLoc) → Ignores ext_last (deleted_next_set z)
last_relinked z = record { law = at }
  where
    at : (c : Cell) → ext_last (Some (deleted_next_set z c)) ≡ ext_last (Some c)
    at (extent h) = refl
    at (live h room) = refl
    at (deleted h rest) = refl

pub block_next_set : (z : ℤ) → Ignores block_next (next_set z)
block_next_set z = record { law = at }
  where
    at : (c : Cell) → block_next (Some (next_set z c)) ≡ block_next (Some c)
    at (extent h) = refl
    at (live h room) = refl
    at (deleted h rest) = refl

pub block_first : (z : DiskLoc) → Ignores block_next (first_set z)
block_first z = record { law = at }
  where
    at : (c : Cell) → block_next (Some (first_set z c)) ≡ block_next (Some c)
    at (extent h) = refl
    at (live h room) = refl
    at (deleted h rest) = refl

pub block_last : (z : DiskLoc) → Ignores block_next (last_set z)
block_last z = record { law = at }
  where
    at : (c : Cell) → block_next (Some (last_set z c)) ≡ block_next (Some c)
    at (extent h) = refl
    at (live h room) = refl
    at (deleted h rest) = refl

pub passed_stays : {X : Type 0} (proj : Option Cell → X) → ((z : DiskLoc) → Ignores proj (deleted_next_set z)) → (before : Option Place) (next : DiskLoc) (H : Heap) (q : Place) → proj (list_passed before next H q) ≡ proj (H q)
passed_stays proj a None next H q = refl
passed_stays proj a (Some x) next H q = stays proj (deleted_next_set next) (a next).law x H q

-- ---- what it tells of a cell

pub live_bare : (o : Option Cell) (h : RecHeader) (room : List ℕ) → bare o ≡ bare (Some (live h room)) → LiveAt o h.extent_ofs h.length_with_headers room
live_bare None h room e = absurd cc
live_bare (Some (extent g)) h room e = absurd cc
live_bare (Some (live g r)) h room e =
    let same_room : r ≡ room = cc in
    let heads : record g { next_ofs = pos 0; prev_ofs = pos 0 } ≡ record h { next_ofs = pos 0; prev_ofs = pos 0 } = cc in
    record { h = g; is = ap (λ (x : List ℕ). Some (live g x)) same_room; ext_is = ap (λ (x : RecHeader). x.extent_ofs) heads; len_is = ap (λ (x : RecHeader). x.length_with_headers) heads }
live_bare (Some (deleted g r)) h room e = absurd cc

pub record DeletedAt (o : Option Cell) (ext len : ℤ) (rest : List ℕ) : Type 0 where
  pub h : DeletedHeader
  pub is : o ≡ Some (deleted h rest)
  pub ext_is : h.extent_ofs ≡ ext
  pub len_is : h.length_with_headers ≡ len

pub deleted_bare : (o : Option Cell) (h : DeletedHeader) (rest : List ℕ) → bare o ≡ bare (Some (deleted h rest)) → DeletedAt o h.extent_ofs h.length_with_headers rest
deleted_bare None h rest e = absurd cc
deleted_bare (Some (extent g)) h rest e = absurd cc
deleted_bare (Some (live g r)) h rest e = absurd cc
deleted_bare (Some (deleted g r)) h rest e =
    let same_rest : r ≡ rest = cc in
    let heads : record g { next_deleted = null } ≡ record h { next_deleted = null } = cc in
    record { h = g; is = ap (λ (x : List ℕ). Some (deleted g x)) same_rest; ext_is = ap (λ (x : DeletedHeader). x.extent_ofs) heads; len_is = ap (λ (x : DeletedHeader). x.length_with_headers) heads }

pub record ExtentLike (o : Option Cell) (like : ExtentHeader) : Type 0 where
  pub h : ExtentHeader
  pub is : o ≡ Some (extent h)
  pub name_is : h.namespace ≡ like.namespace

pub extent_bare : (o : Option Cell) (h : ExtentHeader) → bare o ≡ bare (Some (extent h)) → ExtentLike o h
extent_bare None h e = absurd cc
extent_bare (Some (extent g)) h e =
    let heads : record g { first_record = null; last_record = null } ≡ record h { first_record = null; last_record = null } = cc in
    record { h = g; is = refl; name_is = ap (λ (x : ExtentHeader). x.namespace) heads }
extent_bare (Some (live g r)) h e = absurd cc
extent_bare (Some (deleted g r)) h e = absurd cc

pub bare_ext_next : (o : Option Cell) → ext_next (bare o) ≡ ext_next o
bare_ext_next None = refl
bare_ext_next (Some (extent h)) = refl
bare_ext_next (Some (live h room)) = refl
bare_ext_next (Some (deleted h rest)) = refl

pub bare_ext_prev : (o : Option Cell) → ext_prev (bare o) ≡ ext_prev o
bare_ext_prev None = refl
bare_ext_prev (Some (extent h)) = refl
bare_ext_prev (Some (live h room)) = refl
bare_ext_prev (Some (deleted h rest)) = refl

pub bare_ext_len : (o : Option Cell) → ext_len (bare o) ≡ ext_len o
bare_ext_len None = refl
bare_ext_len (Some (extent h)) = refl
bare_ext_len (Some (live h room)) = refl
bare_ext_len (Some (deleted h rest)) = refl

pub bare_outline : (o : Option Cell) → option_map outline (bare o) ≡ option_map outline o
bare_outline None = refl
bare_outline (Some (extent h)) = refl
bare_outline (Some (live h room)) = refl
bare_outline (Some (deleted h rest)) = refl

pub bare_room : (o : Option Cell) → room_of (bare o) ≡ room_of o
bare_room None = refl
bare_room (Some (extent h)) = refl
bare_room (Some (live h room)) = refl
bare_room (Some (deleted h rest)) = refl
