-- What insert_below's calls are owed, and what it leaves, at the place and height that it is given.
use Rattle.std.proofs.lemmas.List.{length-map}
use Rattle.std.proofs.lemmas.Result.{IfOk-weaker}
use Rattle.std.proofs.Common.{◌≡◌, ℕ, zero, suc, ◌-◌, ◌<◌, ◌≤◌, Bool, List, [], ◌∷◌, ◌++◌, length, insert, slice_get, map, take, drop, get_or, Option, Some, None, IsSome, Result, IfOk, refl, sym, ap, ◌∙◌, subst, arith}
use Rattle.std.specs.declared.cmp.Ordering.TheVariants.{Equal}
use Rattle.mm_base.specs.Places.{null}
use Rattle.mm_base.specs.declared.place.DiskLoc.{DiskLoc}
use Rattle.mm_bson.specs.Tree.{Elements}
use Rattle.mm_bucket.specs.Pairs.{Contents, child_at, with_pair}
use Rattle.mm_bucket.specs.Rules.{children, AreAlike}
use Rattle.mm_btree.specs.Nodes.{Item, Node, Buckets, node_of}
use Rattle.mm_btree.specs.Lists.{front, back, ins, Sorted}
use Rattle.mm_btree.specs.Trees.{Sub, at_of, pairs_of, IsOver, Became}
use Rattle.mm_btree.specs.Changes.{Up, AreThere, IsPlace, IsSettled, StandsAt, IsInserted, roots_of, between_of}
use Rattle.mm_btree.specs.Order.{item_compare, item_lt, IsLacking}
use Rattle.mm_btree.specs.declared.fault.TreeFault.{TreeFault}
use Rattle.mm_btree.proofs.ListLaws.{all-left, all-right}
use Rattle.mm_btree.proofs.Segments.{Cut}
use Rattle.mm_btree.proofs.Inserting.{leaf_at, inner_none, inner_some, inner_there, child}
use Rattle.mm_btree.proofs.Ordered.{item_chains, all_weave, sorted_weave}
use Rattle.mm_btree.proofs.Edits.{leaf_next, leaf_put, kids_none, kids_all, child_is}

-- a height above 0
pub deeper : (h : ℕ) → 0 < h → h ≡ suc (h - 1)
deeper h l = omega (arith, l)

-- the subtree at a place into which a pair is to be put
abbrev pub IsThere : Elements → Buckets → DiskLoc → ℕ → Item → Type 0
IsThere spec m at height x = (up : DiskLoc) × (s : Sub) × StandsAt (item_lt spec) m up height s at × IsLacking spec x s.pairs

pub bucket_is : (m : Buckets) (at up : DiskLoc) (s : Sub) (b : Node) (ps : List Item) (cs : List Sub) (least : ℕ) → s.at ≡ at → IsOver m up least s ps cs → m at ≡ Some b → b ≡ record { parent = up; pairs = ps; kids = map at_of cs }
bucket_is m at up s b ps cs least here bk e = let there = bk.bucket in let f = ap m here in cc

pub lower : (spec : Elements) (m : Buckets) (at : DiskLoc) (height : ℕ) (up : DiskLoc) (s : Sub) → 0 < height → StandsAt (item_lt spec) m up height s at → StandsAt (item_lt spec) m up (suc (height - 1)) s at
lower spec m at height up s l sa = subst (λ (z : ℕ). StandsAt (item_lt spec) m up z s at) (deeper height l) sa

-- ---- the bucket that is read

pub here_sorted : (spec : Elements) (m : Buckets) (at : DiskLoc) (height : ℕ) (x : Item) (b : Node) → IsThere spec m at height x → m at ≡ Some b → Sorted (item_lt spec) b.pairs × IsLacking spec x b.pairs
here_sorted spec m at height x b t e = by height t.2
  where
    seen : (ps : List Item) (cs : List Sub) (least : ℕ) → t.1.at ≡ at → IsOver m t.0 least t.1 ps cs → Sorted (item_lt spec) t.1.pairs → Sorted (item_lt spec) b.pairs × IsLacking spec x b.pairs
    seen ps cs least here bk so =
        let is = bucket_is m at t.0 t.1 b ps cs least here bk e in (
          subst (λ (c : Node). Sorted (item_lt spec) c.pairs) (sym is) (sorted_weave (item_lt spec) (map pairs_of cs) ps (subst (Sorted (item_lt spec)) bk.pairs so)),
          subst (λ (c : Node). IsLacking spec x c.pairs) (sym is) (all_weave (λ y. item_compare spec y x ≡ Equal → ⊥) (map pairs_of cs) ps (subst (IsLacking spec x) bk.pairs t.3)),
        )

    by : (h : ℕ) → StandsAt (item_lt spec) m t.0 h t.1 at → Sorted (item_lt spec) b.pairs × IsLacking spec x b.pairs
    by zero sa = let o = sa.stands in seen o.0 o.1 0 sa.here o.2 sa.order
    by (suc h) sa = let o = sa.stands in seen o.0 o.1 1 sa.here o.2 sa.order

-- it is there
pub there_some : (spec : Elements) (m : Buckets) (at : DiskLoc) (height : ℕ) (x : Item) → IsThere spec m at height x → IsSome (m at)
there_some spec m at height x t = by height t.2
  where
    seen : (s : Sub) (ps : List Item) (cs : List Sub) (least : ℕ) → s.at ≡ at → IsOver m t.0 least s ps cs → IsSome (m at)
    seen s ps cs least here bk = subst IsSome (sym bk.bucket ∙ ap m here) refl

    by : (h : ℕ) → StandsAt (item_lt spec) m t.0 h t.1 at → IsSome (m at)
    by zero sa = let o = sa.stands in seen t.1 o.0 o.1 0 sa.here o.2
    by (suc h) sa = let o = sa.stands in seen t.1 o.0 o.1 1 sa.here o.2

-- in a leaf
pub leaf_is_null : (spec : Elements) (m : Buckets) (at : DiskLoc) (height : ℕ) (x : Item) (b : Contents) → IsThere spec m at height x → height ≡ 0 → m at ≡ Some (node_of b) → b.next ≡ null
leaf_is_null spec m at height x b t low e =
    let sa : StandsAt (item_lt spec) m t.0 0 t.1 at = subst (λ (z : ℕ). StandsAt (item_lt spec) m t.0 z t.1 at) low t.2 in
    let o = sa.stands in
    let is = bucket_is m at t.0 t.1 (node_of b) o.0 o.1 0 sa.here o.2 e in
    leaf_next b (ap (λ (c : Node). c.kids) is ∙ ap (map at_of) o.3)

-- above one
pub inner_is_place : (spec : Elements) (m : Buckets) (at : DiskLoc) (height : ℕ) (x : Item) (b : Contents) → IsThere spec m at height x → 0 < height → m at ≡ Some (node_of b) → b.next ≡ null → ⊥
inner_is_place spec m at height x b t l e f =
    let sa = lower spec m at height t.0 t.1 l t.2 in
    let o = sa.stands in
    let is = bucket_is m at t.0 t.1 (node_of b) o.0 o.1 1 sa.here o.2 e in
    let none : ◌≡◌ {A = List DiskLoc} [] (map at_of o.1) = sym (kids_none b f) ∙ ap (λ (c : Node). c.kids) is in
    omega (arith, ap length none, length-map o.1 at_of, o.3.0)

pub child_found : (spec : Elements) (m : Buckets) (at : DiskLoc) (height : ℕ) (x : Item) (b : Contents) (i : ℕ) (kid : DiskLoc) → IsThere spec m at height x → 0 < height → m at ≡ Some (node_of b) → i ≤ length b.pairs → kid ≡ child_at b i → slice_get (node_of b).kids i ≡ Some kid
child_found spec m at height x b i kid t l e le is =
    ap (λ (xs : List DiskLoc). slice_get xs i) (kids_all b (inner_is_place spec m at height x b t l e)) ∙ (child_is b i le ∙ ap Some (sym is))

-- the child's pairs lack what the subtree's lack
child_lacking : (spec : Elements) (x : Item) (s : Sub) (ps : List Item) (cs : List Sub) (i : ℕ) → Cut s ps cs i → IsLacking spec x s.pairs → IsLacking spec x (get_or cs i s).pairs
child_lacking spec x s ps cs i k h =
    let F = front (map pairs_of (take i cs)) (take i ps) in
    let B = back (map pairs_of (drop (suc i) cs)) (drop i ps) in
    let A : Item → Type 0 = λ y. item_compare spec y x ≡ Equal → ⊥ in
    all-left A (get_or cs i s).pairs B (all-right A F ((get_or cs i s).pairs ++ B) (subst (IsLacking spec x) k.woven h))

pub child_there : (spec : Elements) (m : Buckets) (at : DiskLoc) (height i : ℕ) (x : Item) (kid : DiskLoc) (b : Node) → IsThere spec m at height x → 0 < height → m at ≡ Some b → i ≤ length b.pairs → slice_get b.kids i ≡ Some kid → IsThere spec m kid (height - 1) x
child_there spec m at height i x kid b t l e le k =
    let s = t.1 in
    let sa = lower spec m at height t.0 s l t.2 in
    let o = sa.stands in
    let bk = o.2 in
    let is = bucket_is m at t.0 s b o.0 o.1 1 sa.here bk e in
    let c = child (item_lt spec) (item_chains spec) m t.0 (height - 1) i kid s o.0 o.1 bk o.3 sa.apart sa.order (subst (λ (c : Node). i ≤ length c.pairs) is le) (subst (λ (c : Node). slice_get c.kids i ≡ Some kid) is k) in
    (s.at, get_or o.1 i s, c.1, child_lacking spec x s o.0 o.1 i c.0 t.3)

-- ---- a leaf

leaf_is : (lt : Item → Item → Bool) (m n : Buckets) (at : DiskLoc) (x : Item) (i : ℕ) (up : DiskLoc) (b : Node) (r : Option Up) → m at ≡ Some b → IsPlace lt b.pairs x i → IsSettled m n at (record b { pairs = insert b.pairs i x }) r → IsInserted lt m n at 0 x up r
leaf_is lt m n at x i up b r e pl w s sa =
    subst (λ (z : DiskLoc). (ds : List Sub) × Became m n up 0 s.places (ins lt x s.pairs) (roots_of z r) (between_of r) ds) sa.here
    (leaf_at lt m n x i up s r b sa.stands sa.apart (ap m sa.here ∙ e) pl (subst (λ (z : DiskLoc). IsSettled m n z (record b { pairs = insert b.pairs i x }) r) (sym sa.here) w))

pub leaf_done : (spec : Elements) (m n : Buckets) (at : DiskLoc) (height i : ℕ) (key : List ℕ) (rec : DiskLoc) (b : Contents) (result : Result (Option Up) TreeFault) → IsThere spec m at height (record { key = key; rec = rec }) → height ≡ 0 → m at ≡ Some (node_of b) → AreAlike (children b) → i ≤ length b.pairs → IsPlace (item_lt spec) (node_of b).pairs (record { key = key; rec = rec }) i
    → IfOk result (IsSettled m n at (node_of (with_pair b i key rec null))) → IfOk result (λ r. (up : DiskLoc) → IsInserted (item_lt spec) m n at height (record { key = key; rec = rec }) up r)
leaf_done spec m n at height i key rec b result t low e a le pl w =
    let x : Item = record { key = key; rec = rec } in
    let put = leaf_put b i key rec le a (leaf_is_null spec m at height x b t low e) in
    IfOk-weaker result (IsSettled m n at (node_of (with_pair b i key rec null))) (λ r. (up : DiskLoc) → IsInserted (item_lt spec) m n at height x up r)
    (λ r h. λ up. subst (λ (z : ℕ). IsInserted (item_lt spec) m n at z x up r) (sym low) (leaf_is (item_lt spec) m n at x i up (node_of b) r e pl (subst (λ (c : Node). IsSettled m n at c r) put h))) w

-- ---- above a leaf

pub above_there : (spec : Elements) (m n : Buckets) (at : DiskLoc) (height i : ℕ) (x : Item) (kid : DiskLoc) (b : Node) (u : Up) → IsThere spec m at height x → 0 < height → m at ≡ Some b → IsPlace (item_lt spec) b.pairs x i → slice_get b.kids i ≡ Some kid
    → ((up : DiskLoc) → IsInserted (item_lt spec) m n kid (height - 1) x up (Some u)) → IsSome (n at) × AreThere n (insert b.kids (suc i) u.right)
above_there spec m n at height i x kid b u t l e pl k f =
    let s = t.1 in
    let sa = lower spec m at height t.0 s l t.2 in
    subst (λ (z : DiskLoc). IsSome (n z) × AreThere n (insert b.kids (suc i) u.right)) sa.here
    (inner_there (item_lt spec) (item_chains spec) m n x i t.0 (height - 1) kid s b u sa.stands sa.apart sa.order (ap m sa.here ∙ e) pl k (f s.at))

pub none_done : (spec : Elements) (m n : Buckets) (at : DiskLoc) (height i : ℕ) (x : Item) (kid : DiskLoc) (b : Node) → 0 < height → m at ≡ Some b → IsPlace (item_lt spec) b.pairs x i → slice_get b.kids i ≡ Some kid
    → ((up : DiskLoc) → IsInserted (item_lt spec) m n kid (height - 1) x up None) → (up : DiskLoc) → IsInserted (item_lt spec) m n at height x up None
none_done spec m n at height i x kid b l e pl k f up s st =
    let sa = lower spec m at height up s l st in
    subst (λ (z : ℕ). (ds : List Sub) × Became m n up z s.places (ins (item_lt spec) x s.pairs) (at ∷ []) [] ds) (sym (deeper height l))
    (subst (λ (z : DiskLoc). (ds : List Sub) × Became m n up (suc (height - 1)) s.places (ins (item_lt spec) x s.pairs) (z ∷ []) [] ds) sa.here
    (inner_none (item_lt spec) (item_chains spec) m n x i up (height - 1) kid s b sa.stands sa.apart sa.order (ap m sa.here ∙ e) pl k (f s.at)))

pub some_done : (spec : Elements) (m n n2 : Buckets) (at : DiskLoc) (height i : ℕ) (x : Item) (kid : DiskLoc) (b c : Node) (u : Up) (result : Result (Option Up) TreeFault) → 0 < height → m at ≡ Some b → IsPlace (item_lt spec) b.pairs x i → slice_get b.kids i ≡ Some kid
    → ((up : DiskLoc) → IsInserted (item_lt spec) m n kid (height - 1) x up (Some u)) → c ≡ record b { pairs = insert b.pairs i u.mid; kids = insert b.kids (suc i) u.right }
    → IfOk result (IsSettled n n2 at c) → IfOk result (λ r. (up : DiskLoc) → IsInserted (item_lt spec) m n2 at height x up r)
some_done spec m n n2 at height i x kid b c u result l e pl k f is w =
    IfOk-weaker result (IsSettled n n2 at c) (λ r. (up : DiskLoc) → IsInserted (item_lt spec) m n2 at height x up r) (λ r h. λ up s st. one r h up s st) w
  where
    one : (r : Option Up) → IsSettled n n2 at c r → (up : DiskLoc) (s : Sub) → StandsAt (item_lt spec) m up height s at → (ds : List Sub) × Became m n2 up height s.places (ins (item_lt spec) x s.pairs) (roots_of at r) (between_of r) ds
    one r h up s st =
        let sa = lower spec m at height up s l st in
        let d : Node = record b { pairs = insert b.pairs i u.mid; kids = insert b.kids (suc i) u.right } in
        let w2 = subst (λ (z : DiskLoc). IsSettled n n2 z d r) (sym sa.here) (subst (λ (y : Node). IsSettled n n2 at y r) is h) in
        subst (λ (z : ℕ). (ds : List Sub) × Became m n2 up z s.places (ins (item_lt spec) x s.pairs) (roots_of at r) (between_of r) ds) (sym (deeper height l))
        (subst (λ (z : DiskLoc). (ds : List Sub) × Became m n2 up (suc (height - 1)) s.places (ins (item_lt spec) x s.pairs) (roots_of z r) (between_of r) ds) sa.here
        (inner_some (item_lt spec) (item_chains spec) m n n2 x i up (height - 1) kid s b u r sa.stands sa.apart sa.order (ap m sa.here ∙ e) pl k (f s.at) w2))
