-- What the calls on a node's records ask, and what they make of its buckets.
use Rattle.std.proofs.Common.{◌≡◌, ℕ, ◌+◌, ◌*◌, ◌≤◌, true, List, length, take, Option, Some, None, cond, refl, sym, ◌∙◌, ap, subst, arith}
use Rattle.std.specs.Option.{option_map}
use Rattle.mm_base.specs.Bytes.{part, overwritten}
use Rattle.mm_base.specs.Places.{null, place_bytes}
use Rattle.mm_base.specs.declared.place.DiskLoc.{DiskLoc}
use Rattle.mm_base.proofs.Parts.{length-part, length-overwritten, overwritten_whole}
use Rattle.mm_ranges.specs.Overlay.{Image, bytes_at}
use Rattle.mm_ranges.specs.Bytes.{read_from}
use Rattle.mm_links.specs.Links.{Place}
use Rattle.mm_extents.specs.Heap.{live}
use Rattle.mm_extents.specs.Changes.{IsLow, loc}
use Rattle.mm_extents.proofs.FileLaws.{low_place}
use Rattle.mm_nstable.specs.Nodes.{SameNames, IsTable, node_at, name_in, details_in, is_used}
use Rattle.mm_nstable.proofs.Tables.{table_at}
use Rattle.mm_records.specs.Constants.{SameConstants, constants_of}
use Rattle.mm_records.specs.Shape.{Shape}
use Rattle.mm_records.specs.Stands.{Stands, ns_in}
use Rattle.mm_records.specs.Map.{live_at, name_at, IsFreed, IsRewritten}
use Rattle.mm_records.specs.Allocating.{IsAllocated}
use Rattle.mm_records.proofs.Owning.{lives}
use Rattle.mm_records.proofs.Serving.{shorter, freed_serves, rewritten_serves, alloc_serves}
use Rattle.mm_bucket.specs.Pairs.{Contents}
use Rattle.mm_bucket.specs.Layout.{Spells}
use Rattle.mm_bucket.specs.Rules.{children, AreAlike}
use Rattle.mm_bucket.proofs.Spelling.{spelled_once}
use Rattle.mm_bucket.proofs.Parents.{parent_written}
use Rattle.mm_btree.specs.Nodes.{Node, node_of, put, place_eq, with_parent}
use Rattle.mm_trees.specs.Walked.{spot_in}
use Rattle.mm_trees.specs.Buckets.{contents_in, bucket_in, node_in, shown_there, IsRoom, Holds, IsStep}
use Rattle.mm_trees.proofs.Following.{spot_loc}
use Rattle.mm_trees.proofs.Showing.{spelled_is, one_owner, room_front, bucket_is, Found}
use Rattle.mm_trees.proofs.Steps.{front_overwritten, IsOneChange, one_goes, one_step, serves_all}

-- ---- names and details

pub same_names : (old new : List ℕ) → new ≡ old → SameNames old new
same_names old new e = record { used = λ k. ap (λ (ns : List ℕ). is_used ns k) e; names = λ k i. ap (λ (ns : List ℕ). name_in (node_at ns k)) e }

pub same_details : (old new : List ℕ) → IsTable old → IsTable new → SameNames old new → SameConstants old new
    → (k : ℕ) → is_used old k ≡ true → constants_of (details_in (node_at new k)) ≡ constants_of (details_in (node_at old k))
same_details old new a b n c k used =
    let name = name_in (node_at old k) in
    sym (c.details name (record { node = k; details = details_in (node_at old k) }) (record { node = k; details = details_in (node_at new k) })
    (table_at old k name a used refl) (table_at new k name b (n.used k ∙ used) (n.names k used)))

-- ---- a bucket in its room

module _ (image : Image) (free : List ℕ) (s : Shape) (node : ℕ) (at : DiskLoc) (h : Holds image free s node) (f : Found image free s node at) where
  pub is_room : IsRoom f.room
  is_room = h.rooms f.p f.room f.live

  pub room_inside : f.p.1 + 16 + 8192 ≤ length (bytes_at image f.p.0)
  room_inside =
      let v = lives s (name_at image node) f.p f.room f.live in
      let i : f.p.1 + (16 + length f.room) ≤ length (bytes_at image f.p.0) = h.stands.heap.inside f.p (live v.h f.room) v.here in
      let l = is_room.long in
      omega (arith, i, l)

  pub bytes_are : (q : Place) (bytes : List ℕ) (n : ℕ) → f.p ≡ q → n ≡ 8192 → bytes ≡ read_from (q.1 + 16) n (bytes_at image q.0) → bytes ≡ part 0 8192 f.room
  unfolding part
  bytes_are q bytes n e l b =
      b ∙ ap (λ (m : ℕ). read_from (q.1 + 16) m (bytes_at image q.0)) l ∙ ap (λ (x : Place). read_from (x.1 + 16) 8192 (bytes_at image x.0)) (sym e)
      ∙ room_front image free s node h f.p f.room f.live is_room.long

  pub spelled_there : (bytes : List ℕ) → bytes ≡ part 0 8192 f.room → Spells bytes is_room.b
  spelled_there bytes e = subst (λ (x : List ℕ). Spells x is_room.b) (sym e) is_room.spelled

  pub bucket_found : (bytes : List ℕ) (b : Contents) → bytes ≡ part 0 8192 f.room → Spells bytes b → bucket_in image node at ≡ Some (node_of b)
  bucket_found bytes b e sp =
      bucket_is image free s node h at ∙ ap (shown_there (live_at s (name_at image node))) f.spot ∙ ap (option_map node_in) f.live
      ∙ ap (λ (x : Contents). Some (node_of x)) (ap contents_in (sym e) ∙ spelled_is bytes b sp)

  pub alike_found : (bytes : List ℕ) (b : Contents) → bytes ≡ part 0 8192 f.room → Spells bytes b → AreAlike (children b)
  alike_found bytes b e sp = subst (λ (x : Contents). AreAlike (children x)) (spelled_once bytes is_room.b b (spelled_there bytes e) sp) is_room.alike

  pub not_null : at ≡ null → ⊥
  not_null e = let z : None ≡ Some f.p = sym (ap spot_in e) ∙ f.spot in cc

  -- ---- writing inside it

  module _ (bytes : List ℕ) (b : Contents) (n : ℕ) (len : length bytes + n ≡ 8192) (sp : Spells (overwritten 0 bytes (part 0 8192 f.room)) b) (a : AreAlike (children b)) where
    pub fits : 0 + length bytes ≤ length f.room
    fits = let l = is_room.long in omega (arith, l, len)

    front : part 0 8192 (overwritten 0 bytes f.room) ≡ overwritten 0 bytes (part 0 8192 f.room)
    front = front_overwritten bytes f.room 8192 n (sym len)

    new_spelled : Spells (part 0 8192 (overwritten 0 bytes f.room)) b
    new_spelled = subst (λ (x : List ℕ). Spells x b) (sym front) sp

    new_room : IsRoom (overwritten 0 bytes f.room)
    new_room =
        let l = is_room.long in
        let m = length-overwritten 0 bytes f.room fits in
        record { long = omega (arith, l, m); b = b; spelled = new_spelled; alike = a }

    pub new_node : option_map node_in (Some (overwritten 0 bytes f.room)) ≡ Some (node_of b)
    new_node = ap (λ (x : Contents). Some (node_of x)) (spelled_is (part 0 8192 (overwritten 0 bytes f.room)) b new_spelled)

    pub written_change : (new : Image) (t : Shape) → ns_in new ≡ ns_in image → Stands new free t → IsRewritten s t f.p (overwritten 0 bytes f.room) → IsOneChange image new free s t node 0 at (Some (overwritten 0 bytes f.room))
    written_change new t ns st r = record {
      stands = st;
      names = same_names (ns_in image) (ns_in new) ns;
      constants = λ k used. ap (λ (x : List ℕ). constants_of (details_in (node_at x k))) ns;
      p = f.p;
      spot = f.spot;
      here = r.here (name_at image node) ∙ ap (option_map (λ (_ : List ℕ). overwritten 0 bytes f.room)) f.live;
      elsewhere = r.others;
      foreign = λ m no. let none = one_owner s (name_at image node) m f.p f.room f.live no in r.here m ∙ ap (option_map (λ (_ : List ℕ). overwritten 0 bytes f.room)) none ∙ sym none;
      room = λ x e. let z : overwritten 0 bytes f.room ≡ x = cc in subst IsRoom z new_room;
      serves = serves_all s t (name_at image node) (λ k b. rewritten_serves s t f.p (overwritten 0 bytes f.room) st.lists r (name_at image node) k b);
    }

  -- the whole bucket
  pub whole_spelled : (bytes : List ℕ) (b : Contents) → Spells bytes b → Spells (overwritten 0 bytes (part 0 8192 f.room)) b
  whole_spelled bytes b sp =
      let l = is_room.long in
      let m = length-part 0 8192 f.room (omega (arith, l)) in
      let w = sp.laid.whole in
      subst (λ (x : List ℕ). Spells x b) (sym (overwritten_whole bytes (part 0 8192 f.room) (omega (arith, m, w)))) sp

  -- its parent alone
  pub parent_spelled : (up : DiskLoc) → Spells (overwritten 0 (place_bytes up) (part 0 8192 f.room)) (record is_room.b { parent = up })
  parent_spelled up = parent_written (part 0 8192 f.room) is_room.b up is_room.spelled

  pub parent_node : (up : DiskLoc) → Some (node_of (record is_room.b { parent = up })) ≡ with_parent up (bucket_in image node at)
  parent_node up = sym (ap (with_parent up) (bucket_found (part 0 8192 f.room) is_room.b refl is_room.spelled))

  -- ---- taking it out

  pub freed_change : (new : Image) (t : Shape) → Stands new free t → SameNames (ns_in image) (ns_in new) → SameConstants (ns_in image) (ns_in new) → IsFreed s t (name_at image node) f.p (16 + length f.room) → IsOneChange image new free s t node 0 at None
  freed_change new t st n c r = record {
    stands = st;
    names = n;
    constants = same_details (ns_in image) (ns_in new) h.stands.table st.table n c;
    p = f.p;
    spot = f.spot;
    here = r.map.gone (name_at image node);
    elsewhere = r.map.others;
    foreign = λ m no. r.map.gone m ∙ sym (one_owner s (name_at image node) m f.p f.room f.live no);
    room = λ x e. absurd cc;
    serves = serves_all s t (name_at image node) (λ k b. freed_serves s t (name_at image node) f.p (16 + length f.room) st.lists r (name_at image node) k b);
  }

-- ---- a new record

module _ (image new : Image) (free : List ℕ) (s t : Shape) (node : ℕ) (h : Holds image free s node) (at : DiskLoc) (p : Place) (bytes : List ℕ) (b : Contents)
    (st : Stands new free t) (named : at ≡ loc p) (c : IsAllocated image s t free (name_at image node) p 8208 bytes) (sp : Spells bytes b) (a : AreAlike (children b)) where
  new_low : IsLow p
  new_low = let v = lives t (name_at image node) p c.room c.here in low_place new t.heap p (live v.h c.room) st.files st.heap v.here

  new_spot : spot_in at ≡ Some p
  new_spot = ap spot_in named ∙ spot_loc p new_low

  new_front : part 0 8192 c.room ≡ bytes
  unfolding part
  new_front = ap (λ (n : ℕ). take n c.room) (sym sp.laid.whole) ∙ c.front

  added_room : IsRoom c.room
  added_room = let e = c.enough in record { long = omega (arith, e); b = b; spelled = subst (λ (x : List ℕ). Spells x b) (sym new_front) sp; alike = a }

  pub added_node : option_map node_in (Some c.room) ≡ Some (node_of b)
  added_node = ap (λ (x : Contents). Some (node_of x)) (ap contents_in new_front ∙ spelled_is bytes b sp)

  pub added_change : SameNames (ns_in image) (ns_in new) → SameConstants (ns_in image) (ns_in new) → IsOneChange image new free s t node 1 at (Some c.room)
  added_change n d = record {
    stands = st;
    names = n;
    constants = same_details (ns_in image) (ns_in new) h.stands.table st.table n d;
    p = p;
    spot = new_spot;
    here = c.here;
    elsewhere = c.others;
    foreign = λ m no. one_owner t (name_at image node) m p c.room c.here no ∙ sym (c.fresh m);
    room = λ x e. let z : c.room ≡ x = cc in subst IsRoom z added_room;
    serves = λ k some b. alloc_serves image s t free (name_at image node) p 8208 bytes st.lists c k some (shorter s (name_at image node) (8208 * 1 + k) (8208 + k) (omega arith) b);
  }

  pub was_free : bucket_in image node at ≡ None
  was_free = bucket_is image free s node h at ∙ ap (shown_there (live_at s (name_at image node))) new_spot ∙ ap (option_map node_in) (c.fresh (name_at image node))

  pub new_not_null : at ≡ null → ⊥
  new_not_null e = let z : None ≡ Some p = sym (ap spot_in e) ∙ new_spot in cc

-- ---- one change, as a step of the buckets

-- a shape of the new files, and what has become of the record
pub record Becomes (old new : Image) (free : List ℕ) (s : Shape) (node places : ℕ) (at : DiskLoc) (v : Option Node) : Type 0 where
  pub t : Shape
  pub w : Option (List ℕ)
  pub change : IsOneChange old new free s t node places at w
  pub node_is : option_map node_in w ≡ v

pub step_of : (old new : Image) (node places : ℕ) (at : DiskLoc) (v : Option Node) (free : List ℕ) (s : Shape) → Holds old free s node
    → ((free : List ℕ) (s : Shape) → Holds old free s node → Becomes old new free s node places at v) → IsStep old new node places (put (bucket_in old node) at v)
step_of old new node places at v free s h f = record {
  buckets = λ q. let x = f free s h in one_step old new free s x.t node places at x.w h x.change q ∙ ap (λ (z : Option Node). cond (place_eq q at) z (bucket_in old node q)) x.node_is;
  goes = λ free s h. let x = f free s h in one_goes old new free s x.t node places at x.w h x.change;
}
