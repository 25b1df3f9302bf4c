-- The buckets that are read from files that stand, as their shape has them.
use Rattle.std.proofs.Common.{◌≡◌, ℕ, ◌+◌, ◌≤◌, inl, inr, Bool, true, false, List, length, Option, Some, None, IsSome, cond, refl, sym, ◌∙◌, ap, subst}
use Rattle.std.specs.Prelude.{if◌then◌else◌}
use Rattle.std.specs.Option.{option_map}
use Rattle.std.proofs.lemmas.Bool.{cases_Bool, false≢true}
use Rattle.mm_base.specs.Bytes.{part}
use Rattle.mm_base.specs.declared.place.DiskLoc.{DiskLoc}
use Rattle.mm_base.proofs.Parts.{part_front}
use Rattle.mm_ranges.specs.Overlay.{Image, bytes_at}
use Rattle.mm_links.specs.Links.{Place, same, has}
use Rattle.mm_links.proofs.LinkLaws.{same_not, if_false}
use Rattle.mm_extents.specs.Heap.{Cell, live}
use Rattle.mm_extents.specs.Changes.{IsLow}
use Rattle.mm_records.specs.Constants.{is_name}
use Rattle.mm_records.specs.Shape.{Shape}
use Rattle.mm_records.specs.Map.{ofs_of, extent_of, owner, live_room, live_at, name_at, HasRecord}
use Rattle.mm_records.proofs.Owning.{lives}
use Rattle.mm_extents.proofs.FileLaws.{low_place}
use Rattle.mm_bucket.specs.Pairs.{Pair, Contents}
use Rattle.mm_bucket.specs.Layout.{Spells}
use Rattle.mm_bucket.proofs.Laying.{read_all}
use Rattle.mm_btree.specs.Nodes.{node_of, put, place_eq}
use Rattle.mm_btree.proofs.Places.{place_eq-true, place_eq-is}
use Rattle.mm_trees.specs.Walked.{spot_in, walk_in}
use Rattle.mm_trees.specs.Buckets.{contents_by, contents_in, bucket_bytes, bucket_there, bucket_in, node_in, shown_there, shown, Holds}
use Rattle.mm_trees.proofs.Following.{spot_once, spot_is_loc}
use Rattle.mm_trees.proofs.Live.{walk_is, on_walk, from_walk}

-- bytes that spell contents hold them
pub spelled_is : (bytes : List ℕ) (b : Contents) → Spells bytes b → contents_in bytes ≡ b
unfolding contents_in
spelled_is bytes b s =
    ap (contents_by bytes) s.header
    ∙ ap (λ (ps : List Pair). record { parent = b.parent; pairs = ps; next = b.next }) (read_all bytes 40 b.pairs s.laid.keys s.laid.nodes)

-- ---- a shape's records

-- a live record is one of its own namespace alone
pub one_owner : (s : Shape) (name m : List ℕ) (p : Place) (room : List ℕ) → live_at s name p ≡ Some room → is_name name m ≡ false → live_at s m p ≡ None
one_owner s name m p room l other =
    let v = lives s name p room l in
    ap (λ (c : Option Cell). if is_name (owner (s.heap (extent_of p c))) m then live_room c else None) v.here
    ∙ if_false (is_name (owner (s.heap (p.0, ofs_of v.h.extent_ofs))) m) (Some room) None (ap (λ (n : List ℕ). is_name n m) v.owned ∙ other)

-- one place of a map changes
module _ (u v : Place → Option (List ℕ)) (p : Place) (w : Option (List ℕ)) (at : DiskLoc) (here : u p ≡ w) (others : (q : Place) → same p q ≡ false → u q ≡ v q) (there : spot_in at ≡ Some p) where
  at_other : (q : DiskLoc) → place_eq q at ≡ false → (o : Option Place) → spot_in q ≡ o → shown_there u o ≡ shown_there v o
  at_other q n None e = refl
  at_other q n (Some r) e = ap (option_map node_in) (others r (same_not p r (λ f. false≢true (sym n ∙ place_eq-is q at (spot_once q at p (e ∙ ap (λ (x : Place). Some x) (sym f)) there)))))

  pub one_changed : (q : DiskLoc) → shown_there u (spot_in q) ≡ put (λ (x : DiskLoc). shown_there v (spot_in x)) at (option_map node_in w) q
  one_changed q = elim (cases_Bool (place_eq q at)) [
    | inl y ↦ ap (shown_there u) (ap spot_in (place_eq-true q at y) ∙ there) ∙ ap (option_map node_in) here ∙ sym (ap (λ (b : Bool). cond b (option_map node_in w) (shown_there v (spot_in q))) y)
    | inr n ↦ at_other q n (spot_in q) refl ∙ sym (ap (λ (b : Bool). cond b (option_map node_in w) (shown_there v (spot_in q))) n)
  ]

-- ---- the files

module _ (image : Image) (free : List ℕ) (s : Shape) (node : ℕ) (h : Holds image free s node) where
  -- the bytes of a room
  pub room_front : (p : Place) (room : List ℕ) → live_at s (name_at image node) p ≡ Some room → 8192 ≤ length room → bucket_bytes image p ≡ part 0 8192 room
  room_front p room l le =
      let v = lives s (name_at image node) p room l in
      sym (part_front 8192 (p.1 + 16) (length room) (bytes_at image p.0) le) ∙ ap (part 0 8192) (h.stands.heap.shown p (live v.h room) v.here).1

  pub bucket_is : (at : DiskLoc) → bucket_in image node at ≡ shown s (name_at image node) at
  unfolding bucket_in
  bucket_is at = by (spot_in at)
    where
      live : (p : Place) (r : Option (List ℕ)) → live_at s (name_at image node) p ≡ r → (b : Bool) → has (walk_in image node) p ≡ b
          → (if b then Some (node_of (contents_in (bucket_bytes image p))) else None) ≡ option_map node_in r
      live p None e true f = absurd (
          let x = from_walk image free s h.stands node h.is_node p (ap (λ (xs : List Place). has xs p) (sym (walk_is image free s h.stands node h.is_node)) ∙ f) in
          let z : None ≡ Some x.0 = sym e ∙ x.1 in cc)
      live p None e false f = refl
      live p (Some room) e true f = ap (λ (bytes : List ℕ). Some (node_of (contents_in bytes))) (room_front p room e (h.rooms p room e).long)
      live p (Some room) e false f = absurd (false≢true (sym f ∙ ap (λ (xs : List Place). has xs p) (walk_is image free s h.stands node h.is_node) ∙ on_walk image free s h.stands node h.is_node p room e))

      by : (o : Option Place) → bucket_there image node o ≡ shown_there (live_at s (name_at image node)) o
      by None = refl
      by (Some p) = live p (live_at s (name_at image node) p) refl (has (walk_in image node) p) refl

-- the record of a bucket
pub record Found (image : Image) (free : List ℕ) (s : Shape) (node : ℕ) (at : DiskLoc) : Type 0 where
  pub p : Place
  pub room : List ℕ
  pub spot : spot_in at ≡ Some p
  pub live : live_at s (name_at image node) p ≡ Some room
  pub low : IsLow p
  pub has_record : HasRecord image free s node p at room

pub found : (image : Image) (free : List ℕ) (s : Shape) (node : ℕ) (at : DiskLoc) → Holds image free s node → IsSome (bucket_in image node at) → Found image free s node at
found image free s node at h some = by (spot_in at) refl (subst IsSome (bucket_is image free s node h at) some)
  where
    inner : (p : Place) → spot_in at ≡ Some p → (r : Option (List ℕ)) → live_at s (name_at image node) p ≡ r → IsSome (option_map node_in r) → Found image free s node at
    inner p e None l y = absurd cc
    inner p e (Some room) l y =
        let v = lives s (name_at image node) p room l in
        let low = low_place image s.heap p (live v.h room) h.stands.files h.stands.heap v.here in
        record { p = p; room = room; spot = e; live = l; low = low; has_record = record { stands = h.stands; is_node = h.is_node; named = spot_is_loc at p low e; live = l } }

    by : (o : Option Place) → spot_in at ≡ o → IsSome (shown_there (live_at s (name_at image node)) o) → Found image free s node at
    by None e y = absurd cc
    by (Some p) e y = inner p e (live_at s (name_at image node) p) refl y
