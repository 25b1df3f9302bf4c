-- Records of a store, at the places that frames name.
use Rattle.std.proofs.Common.{◌≡◌, ℕ, ◌+◌, ◌≤◌, List, length, ◌∙◌, ap, subst, arith, true, [], Option, Some, refl}
use Rattle.std.specs.Option.{option_map}
use Rattle.std.specs.FinMap.{get}
use Rattle.mm_frames.specs.declared.details.Details.{Details}
use Rattle.mm_nstable.specs.Nodes.{name_in, node_at, is_used, IsTable}
use Rattle.mm_nstable.specs.Table.{table_of}
use Rattle.mm_base.specs.Bytes.{part, overwritten}
use Rattle.mm_base.specs.declared.place.DiskLoc.{DiskLoc}
use Rattle.mm_ranges.specs.Overlay.{Image, bytes_at}
use Rattle.mm_frames.specs.Texts.{text_in}
use Rattle.mm_links.specs.Links.{Place, next_in}
use Rattle.mm_extents.specs.Changes.{loc, IsLow}
use Rattle.mm_records.specs.Shape.{Shape}
use Rattle.mm_records.specs.Stands.{Stands, IsOwn, IsNode, ns_in, walk}
use Rattle.mm_records.specs.Freeing.{freed_shape}
use Rattle.mm_records.specs.Map.{name_at, HasRecord, IsTakenOut, IsFreed, IsRewritten}
use Rattle.mm_records.specs.Walking.{IsRest}
use Rattle.mm_records.proofs.Owning.{owns_at, same_spot}
use Rattle.mm_records.proofs.FreedWhole.{freed_whole}
use Rattle.mm_records.proofs.RoomLaws.{room_part}

module _ (image : Image) (free : List ℕ) (s : Shape) (node : ℕ) (p q : Place) (at : DiskLoc) (room : List ℕ) (r : HasRecord image free s node p at room) (names : (x : Place) → at ≡ loc x → IsLow x → x ≡ q) where
  pub own_at : IsOwn image free s node q
  own_at = (owns_at image free s node p q at room r names).own

  pub own_room : (own_at).room ≡ room
  unfolding own_at
  own_room = (owns_at image free s node p q at room r names).room_is

  pub long_room : (n : ℕ) → ((own : IsOwn image free s node q) → n ≡ length own.room) → n ≡ length room
  long_room n f = f own_at ∙ ap (λ (xs : List ℕ). length xs) own_room

  pub fits_own : (n : ℕ) → n ≤ length room → n ≤ length (own_at).room
  fits_own n le = let e = ap (λ (xs : List ℕ). length xs) own_room in omega (arith, le, e)

  pub room_read : (n : ℕ) → ((own : IsOwn image free s node q) → n ≡ length own.room) → part (q.1 + 16) n (bytes_at image q.0) ≡ room
  room_read n f = ap (λ (m : ℕ). part (q.1 + 16) m (bytes_at image q.0)) (f own_at) ∙ room_part image free s node q own_at ∙ own_room

  pub freed_pair : (new : Image) → ((own : IsOwn image free s node q) → Stands new free (freed_shape (text_in own.hh.namespace) own.a q own.h (16 + length own.room) s))
      → ((own : IsOwn image free s node q) → IsTakenOut s (freed_shape (text_in own.hh.namespace) own.a q own.h (16 + length own.room) s) q)
      → (t : Shape) × (Stands new free t × IsFreed s t (name_at image node) p (16 + length room))
  freed_pair new f g =
      let o = own_at in (
        freed_shape (text_in o.hh.namespace) o.a q o.h (16 + length o.room) s,
        (
          f o,
          subst (λ (x : Place). IsFreed s (freed_shape (text_in o.hh.namespace) o.a q o.h (16 + length o.room) s) (name_at image node) x (16 + length room)) (same_spot image free s node p q at room r names)
              (freed_whole image free s node q room o own_room (g o)),
        ),
      )

  pub rewritten_pair : (new : Image) (from : ℕ) (bytes : List ℕ) → from + length bytes ≤ length room
      → ((own : IsOwn image free s node q) → from + length bytes ≤ length own.room → (t : Shape) × (Stands new free t × IsRewritten s t q (overwritten from bytes own.room)))
      → (t : Shape) × (Stands new free t × IsRewritten s t p (overwritten from bytes room))
  rewritten_pair new from bytes le f =
      let x = f own_at (fits_own (from + length bytes) le) in
      (x.0, (x.1.0, subst (λ (y : Place). IsRewritten s x.0 y (overwritten from bytes room)) (same_spot image free s node p q at room r names) (subst (λ (rm : List ℕ). IsRewritten s x.0 q (overwritten from bytes rm)) own_room x.1.1)))

  pub next_pair : (result : Option DiskLoc) → ((own : IsOwn image free s node q) → result ≡ option_map loc (next_in (walk s (text_in own.hh.namespace)) q)) → result ≡ option_map loc (next_in (walk s (name_at image node)) p)
  next_pair result f =
      f own_at ∙ ap (λ (n : List ℕ). option_map loc (next_in (walk s n) q)) own_at.named
      ∙ ap (λ (x : Place). option_map loc (next_in (walk s (name_at image node)) x)) (same_spot image free s node p q at room r names)

-- the extents of a namespace from its first on
pub first_rest : (image : Image) (free : List ℕ) (s : Shape) (node : ℕ) (d : Details) → Stands image free s → IsNode image free node
    → (IsTable (ns_in image) → is_used (ns_in image) node ≡ true → get (table_of (ns_in image)) (name_in (node_at (ns_in image) node)) ≡ Some (record { node = node; details = d }))
    → IsRest image free s (name_at image node) (s.extents (name_at image node)) d.first_extent
first_rest image free s node d st n f = record {
  stands = st;
  isnt_free = n.isnt_free;
  before = [];
  is = refl;
  here = (st.counts (name_at image node) (record { node = node; details = d }) (f st.table n.used) n.isnt_free).first;
}
