-- A live record of the map, as the files have it.
use Rattle.std.proofs.Common.{◌≡◌, ℕ, ℤ, pos, ◌+◌, Bool, true, false, List, length, Option, Some, None, refl, sym, ◌∙◌, ap, subst}
use Rattle.std.specs.Prelude.{if◌then◌else◌}
use Rattle.std.specs.Option.{option_map}
use Rattle.mm_base.specs.declared.place.DiskLoc.{DiskLoc}
use Rattle.mm_ranges.specs.Overlay.{Image}
use Rattle.mm_frames.specs.declared.extent_header.ExtentHeader.{ExtentHeader}
use Rattle.mm_frames.specs.declared.rec_header.RecHeader.{RecHeader}
use Rattle.mm_links.specs.Links.{Place}
use Rattle.mm_extents.specs.Heap.{Cell, extent, live, deleted}
use Rattle.mm_extents.specs.Changes.{loc, IsLow}
use Rattle.mm_extents.specs.Tiling.{outline, an_extent}
use Rattle.mm_extents.proofs.FileLaws.{low_place}
use Rattle.mm_records.specs.Constants.{is_name}
use Rattle.mm_records.specs.Shape.{Shape}
use Rattle.mm_records.specs.Stands.{IsOwn}
use Rattle.mm_records.specs.Map.{ofs_of, extent_of, owner, live_room, live_at, name_at, HasRecord}
use Rattle.mm_records.proofs.Freed.{name_is}

-- a record with its extent's name
pub record Lives (s : Shape) (name : List ℕ) (p : Place) (room : List ℕ) : Type 0 where
  pub h : RecHeader
  pub here : s.heap p ≡ Some (live h room)
  pub owned : owner (s.heap (p.0, ofs_of h.extent_ofs)) ≡ name

split : (b : Bool) (x : Option (List ℕ)) (room : List ℕ) → (if b then x else None) ≡ Some room → (b ≡ true) × (x ≡ Some room)
split true x room e = (refl, e)
split false x room e = absurd cc

pub lives : (s : Shape) (name : List ℕ) (p : Place) (room : List ℕ) → live_at s name p ≡ Some room → Lives s name p room
lives s name p room e = by (s.heap p) refl
  where
    rest : (o : Option Cell) → s.heap p ≡ o → (if is_name (owner (s.heap (extent_of p o))) name then live_room o else None) ≡ Some room
    rest o i = sym (ap (λ (x : Option Cell). if is_name (owner (s.heap (extent_of p x))) name then live_room x else None) i) ∙ e

    by : (o : Option Cell) → s.heap p ≡ o → Lives s name p room
    by None i = let t = split (is_name (owner (s.heap p)) name) None room (rest None i) in absurd (let z : None ≡ Some room = t.1 in cc)
    by (Some (extent h)) i = let t = split (is_name (owner (s.heap p)) name) None room (rest (Some (extent h)) i) in absurd (let z : None ≡ Some room = t.1 in cc)
    by (Some (deleted h r)) i = let t = split (is_name (owner (s.heap p)) name) None room (rest (Some (deleted h r)) i) in absurd (let z : None ≡ Some room = t.1 in cc)
    by (Some (live h r)) i =
        let t = split (is_name (owner (s.heap (p.0, ofs_of h.extent_ofs))) name) (Some r) room (rest (Some (live h r)) i) in
        let z : Some r ≡ Some room = t.1 in
        let same : r ≡ room = cc in
        record { h = h; here = i ∙ ap (λ (x : List ℕ). Some (live h x)) same; owned = name_is (owner (s.heap (p.0, ofs_of h.extent_ofs))) name t.0 }

pub extent_there : (o : Option Cell) (magic : ℕ) (here : DiskLoc) (name : List ℕ) (len : ℤ) → option_map outline o ≡ Some (an_extent magic here name len) → (h : ExtentHeader) × (o ≡ Some (extent h))
extent_there None magic here name len e = absurd cc
extent_there (Some (extent h)) magic here name len e = (h, refl)
extent_there (Some (live h r)) magic here name len e = absurd cc
extent_there (Some (deleted h r)) magic here name len e = absurd cc

-- what freeing and writing ask of it
pub record Owns (image : Image) (free : List ℕ) (s : Shape) (node : ℕ) (p : Place) (room : List ℕ) : Type 0 where
  pub own : IsOwn image free s node p
  pub room_is : own.room ≡ room

pub owns : (image : Image) (free : List ℕ) (s : Shape) (node : ℕ) (p : Place) (at : DiskLoc) (room : List ℕ) → HasRecord image free s node p at room → Owns image free s node p room
owns image free s node p at room r =
    let l = lives s (name_at image node) p room r.live in
    let b = r.stands.tiled.blocks p.0 p.1 (16 + length room) l.h.extent_ofs l.h.length_with_headers (ap (λ (o : Option Cell). option_map outline o) l.here) in
    let home = b.1.1.of_extent in
    let x = extent_there (s.heap (p.0, b.0)) home.magic home.here home.name (pos b.1.0) home.is in
    record {
      own = record {
        stands = r.stands;
        used = r.is_node.used;
        isnt_free = r.is_node.isnt_free;
        h = l.h;
        room = room;
        a = b.0;
        hh = x.0;
        here = l.here;
        ext = b.1.1.extent_place;
        there = x.1;
        named = sym (ap owner x.1) ∙ ap (λ (z : ℤ). owner (s.heap (p.0, ofs_of z))) (sym b.1.1.extent_place) ∙ l.owned;
      };
      room_is = refl;
    }

pub low_record : (image : Image) (free : List ℕ) (s : Shape) (node : ℕ) (p : Place) → IsOwn image free s node p → IsLow p
low_record image free s node p own = low_place image s.heap p (live own.h own.room) own.stands.files own.stands.heap own.here

-- what naming its place asks
pub spot_asks : (image : Image) (free : List ℕ) (s : Shape) (node : ℕ) (p : Place) (at : DiskLoc) (room : List ℕ) → HasRecord image free s node p at room → (q : Place) × ((at ≡ loc q) × IsLow q)
spot_asks image free s node p at room r = (p, (r.named, low_record image free s node p (owns image free s node p at room r).own))

-- at the place that was named
pub owns_at : (image : Image) (free : List ℕ) (s : Shape) (node : ℕ) (p q : Place) (at : DiskLoc) (room : List ℕ) → HasRecord image free s node p at room
    → ((x : Place) → at ≡ loc x → IsLow x → x ≡ q) → Owns image free s node q room
owns_at image free s node p q at room r names =
    let o = owns image free s node p at room r in
    subst (λ (x : Place). Owns image free s node x room) (names p r.named (low_record image free s node p o.own)) o

pub same_spot : (image : Image) (free : List ℕ) (s : Shape) (node : ℕ) (p q : Place) (at : DiskLoc) (room : List ℕ) → HasRecord image free s node p at room → ((x : Place) → at ≡ loc x → IsLow x → x ≡ q) → q ≡ p
same_spot image free s node p q at room r names = sym (names p r.named (low_record image free s node p (owns image free s node p at room r).own))
