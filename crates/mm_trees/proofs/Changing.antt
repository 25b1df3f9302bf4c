-- An index after a change of its tree, and after another root is named.
use Rattle.std.proofs.Common.{◌≡◌, ℕ, ℤ, pos, ◌<◌, inl, inr, Bool, true, false, cond, List, [], ◌∷◌, map, Some, None, refl, sym, ◌∙◌, ap, subst, arith}
use Rattle.std.specs.Prelude.{◌<ℤ◌, ◌||◌}
use Rattle.std.proofs.lemmas.Bool.{cases_Bool}
use Rattle.std.proofs.lemmas.List.{get_or-set_same, set-get_or}
use Rattle.mm_base.specs.Places.{null}
use Rattle.mm_base.specs.declared.place.DiskLoc.{DiskLoc}
use Rattle.mm_bson.specs.Tree.{Elements}
use Rattle.mm_ranges.specs.Overlay.{Image}
use Rattle.mm_frames.specs.declared.details.Details.{Details}
use Rattle.mm_frames.specs.declared.index_pair.IndexPair.{IndexPair}
use Rattle.mm_nstable.specs.Nodes.{IsTable, node_at, details_in, is_used}
use Rattle.mm_records.specs.Constants.{no_pair, constants_of}
use Rattle.mm_records.specs.Shape.{Shape}
use Rattle.mm_records.specs.Stands.{IsNode, ns_in}
use Rattle.mm_records.specs.Map.{name_at}
use Rattle.mm_bucket.specs.Pairs.{Contents}
use Rattle.mm_btree.specs.Nodes.{Item, Buckets, item_of, node_of, put, place_eq}
use Rattle.mm_btree.proofs.Edits.{same_node, kids_none}
use Rattle.mm_btree.specs.Lists.{has, ins}
use Rattle.mm_btree.specs.Trees.{Sub, sub}
use Rattle.mm_btree.specs.Order.{item_lt, IsLacking}
use Rattle.mm_btree.specs.Changes.{IsTree, IsChanged}
use Rattle.mm_btree.specs.Removal.{without}
use Rattle.mm_btree.proofs.Places.{place_eq-is}
use Rattle.mm_trees.specs.Buckets.{Holds, Keeps, Goes, AreRooms, IsStep, bucket_in, shown}
use Rattle.mm_trees.specs.Roots.{pair_of, root_in, with_root, IsRootPut}
use Rattle.mm_trees.specs.Indexes.{HasIndex, GoesBeside, IsUnmade}
use Rattle.mm_trees.specs.Changes.{IsPutIn, IsTaken}
use Rattle.mm_trees.proofs.RootLaws.{pairs_long}
use Rattle.mm_trees.proofs.Showing.{bucket_is}

-- each bucket is still one of the tree
pub still_whole : (lt : Item → Item → Bool) (m n : Buckets) (root : DiskLoc) (h : ℕ) (s t : Sub) (list : List Item) → IsChanged lt m n root h s list t
    → ((at : DiskLoc) → has at s.places ≡ false → m at ≡ None) → (at : DiskLoc) → has at t.places ≡ false → n at ≡ None
still_whole lt m n root h s t list c w at out = elim (cases_Bool (has at s.places)) [
  | inl y ↦ c.moved.gone at y out
  | inr x ↦ c.moved.others at x out ∙ w at x
]

-- details that keep their constants keep their pairs
same_pair : (d e : Details) (position : ℕ) → constants_of d ≡ constants_of e → pair_of d position ≡ pair_of e position
same_pair d e position i = ap (λ (x : Details). pair_of x position) i

same_count : (d e : Details) → constants_of d ≡ constants_of e → d.n_indexes ≡ e.n_indexes
same_count d e i = ap (λ (x : Details). x.n_indexes) i

module _ (old new : Image) (node owner position : ℕ) (spec : Elements) (pairs list : List Item) (x : HasIndex old node owner position spec pairs) (places : ℕ) (g : Goes old new node places) where
  abbrev went : (t : Shape) × (Holds new x.free t node × Keeps old new x.shape t node places)
  went = g x.free x.shape x.holds

  same_owner : name_at new owner ≡ name_at old owner
  same_owner = went.1.1.names.names owner x.owner_is.used

  owner_again : IsNode new x.free owner
  owner_again = record { used = went.1.1.names.used owner ∙ x.owner_is.used; isnt_free = λ e. x.owner_is.isnt_free (sym same_owner ∙ e) }

  counted_again : pos position <ℤ (details_in (node_at (ns_in new) owner)).n_indexes
  counted_again = subst (λ (n : ℤ). pos position <ℤ n) (sym (same_count (details_in (node_at (ns_in new) owner)) (details_in (node_at (ns_in old) owner)) (went.1.1.constants owner x.owner_is.used))) x.counted

  pub root_stays : root_in new owner position ≡ root_in old owner position
  root_stays = ap (λ (p : IndexPair). p.head) (same_pair (details_in (node_at (ns_in new) owner)) (details_in (node_at (ns_in old) owner)) position (went.1.1.constants owner x.owner_is.used))

  -- with the same root
  pub index_again : (h : ℕ) (t : Sub) → IsChanged (item_lt spec) (bucket_in old node) (bucket_in new node) (root_in old owner position) h x.s list t → HasIndex new node owner position spec list
  index_again h t c = record {
    free = x.free;
    shape = went.0;
    holds = went.1.0;
    owner_is = owner_again;
    inside = x.inside;
    counted = counted_again;
    height = h;
    s = t;
    tree = subst (λ (r : DiskLoc). IsTree (item_lt spec) (bucket_in new node) r h t) (sym root_stays) c.tree;
    listed = c.holds;
    whole = still_whole (item_lt spec) (bucket_in old node) (bucket_in new node) (root_in old owner position) h x.s t list c x.whole;
  }

-- a root that is the one named
pub with_same : (d e : Details) (position : ℕ) → constants_of d ≡ constants_of e → constants_of d ≡ constants_of (with_root e position (pair_of e position).head)
with_same d e position i = i ∙ ap constants_of (with_own e position)
  where
    with_own : (e : Details) (position : ℕ) → e ≡ with_root e position (pair_of e position).head
    with_own e position = ap (λ (ps : List IndexPair). record e { indexes = ps }) (sym (set-get_or e.indexes position no_pair))

pub goes_beside : (old new : Image) (node owner position places : ℕ) → Goes old new node places → GoesBeside old new node owner position places
goes_beside old new node owner position places g free s h o low =
    let x = g free s h in (
      x.0,
      (
        x.1.0,
        record {
          others = x.1.1.others;
          names = x.1.1.names;
          constants = λ k u ne. x.1.1.constants k u;
          owner_constants = (root_in old owner position, with_same (details_in (node_at (ns_in new) owner)) (details_in (node_at (ns_in old) owner)) position (x.1.1.constants owner o.used));
          serves = x.1.1.serves;
        },
      ),
    )

-- ---- another root is named

module _ (mid new : Image) (owner position : ℕ) (root : DiskLoc) (p : IsRootPut mid new owner position root) (inside : position < 10) where
  pub root_is : root_in new owner position ≡ root
  root_is =
      let d = details_in (node_at (ns_in mid) owner) in
      let l = pairs_long (node_at (ns_in mid) owner) in
      ap (λ (x : Details). (pair_of x position).head) p.here
      ∙ ap (λ (x : IndexPair). x.head) (get_or-set_same d.indexes position (record (pair_of d position) { head = root }) no_pair (omega (arith, l, inside)))

  same_count_put : (details_in (node_at (ns_in new) owner)).n_indexes ≡ (details_in (node_at (ns_in mid) owner)).n_indexes
  same_count_put = ap (λ (x : Details). x.n_indexes) p.here

  module _ (free : List ℕ) (node : ℕ) (t : Shape) (h : Holds mid free t node) (o : IsNode mid free owner) (low : pos position <ℤ (details_in (node_at (ns_in mid) owner)).n_indexes) where
    same_name : name_at new node ≡ name_at mid node
    same_name = p.names.names node h.is_node.used

    pub holds_put : Holds new free t node
    holds_put = record {
      stands = p.stands free t h.stands o low;
      is_node = record { used = p.names.used node ∙ h.is_node.used; isnt_free = λ e. h.is_node.isnt_free (sym same_name ∙ e) };
      rooms = subst (AreRooms t) (sym same_name) h.rooms;
    }

    pub buckets_stay : bucket_in new node ≡ bucket_in mid node
    buckets_stay = λ i at. (bucket_is new free t node holds_put at ∙ ap (λ (m : List ℕ). shown t m at) same_name ∙ sym (bucket_is mid free t node h at)) i

    pub owner_put : IsNode new free owner
    owner_put = record { used = p.names.used owner ∙ o.used; isnt_free = λ e. o.isnt_free (sym (p.names.names owner o.used) ∙ e) }

    pub counted_put : pos position <ℤ (details_in (node_at (ns_in new) owner)).n_indexes
    counted_put = subst (λ (n : ℤ). pos position <ℤ n) (sym same_count_put) low

    -- a tree at the new root
    pub index_put : (spec : Elements) (list : List Item) (k : ℕ) (u : Sub) → IsTree (item_lt spec) (bucket_in mid node) root k u → u.pairs ≡ list → ((at : DiskLoc) → has at u.places ≡ false → bucket_in mid node at ≡ None) → HasIndex new node owner position spec list
    index_put spec list k u tree listed whole = record {
      free = free;
      shape = t;
      holds = holds_put;
      owner_is = owner_put;
      inside = inside;
      counted = counted_put;
      height = k;
      s = u;
      tree = subst (λ (m : Buckets). IsTree (item_lt spec) m (root_in new owner position) k u) (sym buckets_stay) (subst (λ (r : DiskLoc). IsTree (item_lt spec) (bucket_in mid node) r k u) (sym root_is) tree);
      listed = listed;
      whole = λ at out. ap (λ (m : Buckets). m at) buckets_stay ∙ whole at out;
    }

module _ (old mid new : Image) (node owner position places : ℕ) (root : DiskLoc) (g : Goes old mid node places) (p : IsRootPut mid new owner position root) (inside : position < 10) where
  pub goes_put : GoesBeside old new node owner position places
  goes_put free s h o low =
      let x = g free s h in
      let o' : IsNode mid free owner = record { used = x.1.1.names.used owner ∙ o.used; isnt_free = λ e. o.isnt_free (sym (x.1.1.names.names owner o.used) ∙ e) } in
      let same = x.1.1.constants owner o.used in
      let low' = subst (λ (n : ℤ). pos position <ℤ n) (sym (same_count (details_in (node_at (ns_in mid) owner)) (details_in (node_at (ns_in old) owner)) same)) low in (
        x.0,
        (
          holds_put mid new owner position root p inside free node x.0 x.1.0 o' low',
          record {
            others = x.1.1.others;
            names = record {
              used = λ k. p.names.used k ∙ x.1.1.names.used k;
              names = λ k u. p.names.names k (x.1.1.names.used k ∙ u) ∙ x.1.1.names.names k u;
            };
            constants = λ k u ne. ap constants_of (p.others k (x.1.1.names.used k ∙ u) ne) ∙ x.1.1.constants k u;
            owner_constants = (root, ap constants_of p.here ∙ ap (λ (z : Details). with_root z position root) same);
            serves = x.1.1.serves;
          },
        ),
      )

-- a change of the tree, and then its new root is named
pub index_changed : (old mid new : Image) (node owner position : ℕ) (spec : Elements) (pairs list : List Item) (x : HasIndex old node owner position spec pairs) (places : ℕ) (g : Goes old mid node places) (root : DiskLoc) (p : IsRootPut mid new owner position root)
    (h : ℕ) (t : Sub) → IsChanged (item_lt spec) (bucket_in old node) (bucket_in mid node) root h x.s list t → HasIndex new node owner position spec list
index_changed old mid new node owner position spec pairs list x places g root p h t c =
    let w = g x.free x.shape x.holds in
    index_put mid new owner position root p x.inside x.free node w.0 w.1.0 (owner_again old mid node owner position spec pairs list x places g) (counted_again old mid node owner position spec pairs list x places g)
    spec list h t c.tree c.holds (still_whole (item_lt spec) (bucket_in old node) (bucket_in mid node) root h x.s t list c x.whole)

-- what naming a root asks, after a change
pub table_after : (old new : Image) (node places : ℕ) (free : List ℕ) (s : Shape) → Holds old free s node → Goes old new node places → IsTable (ns_in new)
table_after old new node places free s h g = (g free s h).1.0.stands.table

pub owner_used : (old new : Image) (node owner places : ℕ) (free : List ℕ) (s : Shape) → Holds old free s node → is_used (ns_in old) owner ≡ true → Goes old new node places → is_used (ns_in new) owner ≡ true
owner_used old new node owner places free s h u g = (g free s h).1.1.names.used owner ∙ u

-- ---- what the calls make of an index

module _ (old : Image) (node owner position : ℕ) (spec : Elements) (root : DiskLoc) (is : root ≡ root_in old owner position) (x : Item) where
  pub tree_at : (pairs : List Item) (i : HasIndex old node owner position spec pairs) → IsTree (item_lt spec) (bucket_in old node) root i.height i.s
  tree_at pairs i = subst (λ (r : DiskLoc). IsTree (item_lt spec) (bucket_in old node) r i.height i.s) (sym is) i.tree

  pub lacking_at : (pairs : List Item) (i : HasIndex old node owner position spec pairs) → IsLacking spec x pairs → IsLacking spec x i.s.pairs
  lacking_at pairs i l = subst (IsLacking spec x) (sym i.listed) l

  -- a pair is put in, and the root stays
  pub put_none : (new : Image) (places : ℕ) → Goes old new node places → IsPutIn spec (bucket_in old node) (bucket_in new node) root x None
      → (pairs : List Item) → HasIndex old node owner position spec pairs → IsLacking spec x pairs → HasIndex new node owner position spec (ins (item_lt spec) x pairs)
  put_none new places g f pairs i l =
      let y = f i.height i.s (tree_at pairs i) (lacking_at pairs i l) in
      let c = subst (λ (ps : List Item). IsChanged (item_lt spec) (bucket_in old node) (bucket_in new node) root y.0 i.s (ins (item_lt spec) x ps) y.1.0) i.listed y.1.1 in
      index_again old new node owner position spec pairs (ins (item_lt spec) x pairs) i places g y.0 y.1.0
      (subst (λ (r : DiskLoc). IsChanged (item_lt spec) (bucket_in old node) (bucket_in new node) r y.0 i.s (ins (item_lt spec) x pairs) y.1.0) is c)

  -- there is a new one
  pub put_some : (mid new : Image) (top : DiskLoc) (places : ℕ) → Goes old mid node places → IsPutIn spec (bucket_in old node) (bucket_in mid node) root x (Some top) → IsRootPut mid new owner position top
      → (pairs : List Item) → HasIndex old node owner position spec pairs → IsLacking spec x pairs → HasIndex new node owner position spec (ins (item_lt spec) x pairs)
  put_some mid new top places g f p pairs i l =
      let y = f i.height i.s (tree_at pairs i) (lacking_at pairs i l) in
      let c = subst (λ (ps : List Item). IsChanged (item_lt spec) (bucket_in old node) (bucket_in mid node) top y.0 i.s (ins (item_lt spec) x ps) y.1.0) i.listed y.1.1 in
      index_changed old mid new node owner position spec pairs (ins (item_lt spec) x pairs) i places g top p y.0 y.1.0 c

  -- a pair is taken out
  pub taken_out : (mid new : Image) (top : DiskLoc) (places : ℕ) → Goes old mid node places → IsTaken spec (bucket_in old node) (bucket_in mid node) root x top → IsRootPut mid new owner position top
      → (pairs : List Item) → HasIndex old node owner position spec pairs → HasIndex new node owner position spec (without spec x pairs)
  taken_out mid new top places g f p pairs i =
      let y = f i.height i.s (tree_at pairs i) in
      let c = subst (λ (ps : List Item). IsChanged (item_lt spec) (bucket_in old node) (bucket_in mid node) top y.0 i.s (without spec x ps) y.1.0) i.listed y.1.1 in
      index_changed old mid new node owner position spec pairs (without spec x pairs) i places g top p y.0 y.1.0 c

-- ---- an index is made

pub empty_node : (b : Contents) → b ≡ record { parent = null; pairs = []; next = null } → node_of b ≡ record { parent = null; pairs = []; kids = [] }
empty_node b e = same_node (node_of b) (record { parent = null; pairs = []; kids = [] }) (ap (λ (x : Contents). x.parent) e) (ap (λ (x : Contents). map item_of x.pairs) e) (kids_none b (ap (λ (x : Contents). x.next) e))

empty_tree : (lt : Item → Item → Bool) (m : Buckets) (at : DiskLoc) → m at ≡ Some (record { parent = null; pairs = []; kids = [] }) → IsTree lt m at 0 (sub at [] [])
empty_tree lt m at e = record {
  here = refl;
  stands = ([], [], record { bucket = e; pairs = refl; places = refl; some = omega arith }, refl);
  apart = (refl, tt);
  order = tt;
}

pub made : (old mid new : Image) (node owner position : ℕ) (spec : Elements) (root : DiskLoc) (i : IsUnmade old node owner position) (s : IsStep old mid node 1 (put (bucket_in old node) root (Some (record { parent = null; pairs = []; kids = [] }))))
    → IsRootPut mid new owner position root → HasIndex new node owner position spec []
made old mid new node owner position spec root i s p =
    let w = s.goes i.free i.shape i.holds in
    let o : IsNode mid i.free owner = record { used = w.1.1.names.used owner ∙ i.owner_is.used; isnt_free = λ e. i.owner_is.isnt_free (sym (w.1.1.names.names owner i.owner_is.used) ∙ e) } in
    let low = subst (λ (n : ℤ). pos position <ℤ n) (sym (same_count (details_in (node_at (ns_in mid) owner)) (details_in (node_at (ns_in old) owner)) (w.1.1.constants owner i.owner_is.used))) i.counted in
    let here = s.buckets root ∙ ap (λ (b : Bool). cond b (Some (record { parent = null; pairs = []; kids = [] })) (bucket_in old node root)) (place_eq-is root root refl) in
    index_put mid new owner position root p i.inside i.free node w.0 w.1.0 o low spec [] 0 (sub root [] []) (empty_tree (item_lt spec) (bucket_in mid node) root here) refl
    (λ at out. s.buckets at ∙ ap (λ (b : Bool). cond b (Some (record { parent = null; pairs = []; kids = [] })) (bucket_in old node at)) (apart at out) ∙ i.none at)
  where
    apart : (at : DiskLoc) → has at (root ∷ []) ≡ false → place_eq at root ≡ false
    apart at h = known (place_eq at root) h
      where
        known : (b : Bool) → (b || false) ≡ false → b ≡ false
        known true e = e
        known false e = refl
