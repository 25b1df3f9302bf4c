-- What is owed where the root of a tree is settled, and what a removal leaves.
use Rattle.std.proofs.Common.{◌≡◌, ◌≢◌, ℕ, suc, ◌+◌, ◌<◌, Bool, true, false, List, [], ◌∷◌, ◌++◌, length, map, Option, Some, None, IsSome, cond, refl, sym, ap, ◌∙◌, subst, add-one, arith}
use Rattle.mm_base.specs.Places.{null}
use Rattle.mm_base.specs.declared.place.DiskLoc.{DiskLoc}
use Rattle.mm_bson.specs.Tree.{Elements}
use Rattle.mm_bucket.specs.Pairs.{Pair, Contents}
use Rattle.mm_bucket.specs.Rules.{left_of, children}
use Rattle.mm_btree.specs.Nodes.{Item, Node, Buckets, item_of, place_eq, node_of, put}
use Rattle.mm_btree.specs.Lists.{has, Sorted}
use Rattle.mm_btree.specs.Trees.{Sub}
use Rattle.mm_btree.specs.Order.{item_lt, IsLacking}
use Rattle.mm_btree.specs.Changes.{Up, IsTree, IsChanged}
use Rattle.mm_btree.specs.Removal.{without, exchanged, IsTakenOut, ups, IsOut, IsExchanged, IsRootLeft}
use Rattle.mm_btree.specs.declared.outcome.Outcome.{Outcome}
use Rattle.mm_btree.specs.declared.outcome.Outcome.TheVariants.{Thin}
use Rattle.mm_btree.proofs.Places.{place_differ}
use Rattle.mm_btree.proofs.Frames.{opened}
use Rattle.mm_btree.proofs.Moved.{moves_trans}
use Rattle.mm_btree.proofs.Takings.{taken_sorted, taken_is, stead_is, stead_there, without_sorted}
use Rattle.mm_btree.proofs.SteadCalls.{stead_left}
use Rattle.mm_btree.proofs.RootLeft.{lone}

-- ---- a root without pairs

pub thin_some : (m n : Buckets) (root : DiskLoc) (height : ℕ) (s : Sub) (list : List Item) → IsRootLeft m n height s list root Thin → IsSome (n root)
thin_some m n root height s list v =
    let t = v.left.0 in
    let k = v.left.1 in
    let o = opened n null 0 height t k.stands in
    subst (λ (q : DiskLoc). IsSome (n q)) (k.at ∙ v.here) (subst IsSome (sym o.2.bucket) refl)

only_child : (b : Contents) (q : DiskLoc) → (node_of b).pairs ≡ [] → (node_of b).kids ≡ q ∷ [] → (node_of b).kids ≡ b.next ∷ []
only_child b q none e = by (place_eq b.next null) refl
  where
    empty : (ps : List Pair) → map item_of ps ≡ [] → map left_of ps ≡ []
    empty [] f = refl
    empty (p ∷ ps) f = absurd (omega (arith, ap length f))

    by : (t : Bool) → place_eq b.next null ≡ t → (node_of b).kids ≡ b.next ∷ []
    by true f = let two : (node_of b).kids ≡ [] = ap (λ (t : Bool). cond t [] (children b)) f in absurd (omega (arith, ap length (sym e ∙ two)))
    by false f = ap (λ (t : Bool). cond t [] (children b)) f ∙ ap (λ xs. xs ++ b.next ∷ []) (empty b.pairs none)

pub thin_kid : (m n : Buckets) (root : DiskLoc) (height : ℕ) (s : Sub) (list : List Item) (b : Contents) → 0 < height → IsRootLeft m n height s list root Thin → n root ≡ Some (node_of b) → (node_of b).kids ≡ b.next ∷ []
thin_kid m n root height s list b l v e =
    let z = lone m n root height s list (node_of b) l v e in
    only_child b z.0.at (v.left.3 (node_of b) (ap n (v.left.1.at ∙ v.here) ∙ e)) z.1.kid

pub thin_kid_some : (m n n1 : Buckets) (root kid : DiskLoc) (height : ℕ) (s : Sub) (list : List Item) (b : Contents) → 0 < height → IsRootLeft m n height s list root Thin → n root ≡ Some (node_of b) → kid ≡ b.next → ((q : DiskLoc) → n1 q ≡ put n root None q) → IsSome (n1 kid)
thin_kid_some m n n1 root kid height s list b l v e is same =
    let z = lone m n root height s list (node_of b) l v e in
    let at : z.0.at ≡ kid = heads (sym z.1.kid ∙ thin_kid m n root height s list b l v e) ∙ sym is in
    let within : has z.0.at z.0.places ≡ true = z.1.root_in in
    let apart : place_eq kid root ≡ false = place_differ kid root (λ p. let two : has root z.0.places ≡ true = subst (λ (y : DiskLoc). has y z.0.places ≡ true) (at ∙ p) within in let three = z.1.out in cc) in
    subst IsSome (sym (same kid ∙ rw apart refl)) (by (n kid) (subst (λ (y : DiskLoc). n y ≢ None) at z.1.some))
  where
    head : List DiskLoc → DiskLoc
    head [] = null
    head (x ∷ xs) = x

    heads : {x y : DiskLoc} → x ∷ [] ≡ y ∷ [] → x ≡ y
    heads e = ap head e

    by : (o : Option Node) → o ≢ None → IsSome o
    by None f = absurd (f refl)
    by (Some b) f = refl

-- ---- a pair of the tree has given way to another

pub root_exchanged : (spec : Elements) (m n : Buckets) (root : DiskLoc) (height : ℕ) (s : Sub) (x y : Item) (u : Option Up) (r : Outcome) → IsTree (item_lt spec) m root height s → (IsLacking spec x s.pairs → ⊥) → u ≡ ups r → (r ≡ Thin → ⊥) → ((up : DiskLoc) → IsExchanged spec m n root height x y up u)
    → IsRootLeft m n height s (exchanged spec x y s.pairs) root r
root_exchanged spec m n root height s x y u r t there e f w = record {
  here = t.here;
  left = stead_left m n null root root height s (exchanged spec x y s.pairs) u r t.here e f (w null s t there);
}

pub higher : (lt : Item → Item → Bool) (m o : Buckets) (p : DiskLoc) (h : ℕ) (s : Sub) (list : List Item) → ((t : Sub) × IsChanged lt m o p (suc h) s list t) → (t : Sub) × IsChanged lt m o p (h + 1) s list t
higher lt m o p h s list k = subst (λ (z : ℕ). (t : Sub) × IsChanged lt m o p z s list t) (sym (add-one h)) k

-- ---- the whole call

pub out_left : (spec : Elements) (m n : Buckets) (root : DiskLoc) (height : ℕ) (x : Item) (y : Option Item) (r : Outcome) (s : Sub) → IsOut spec m n root height x y r → IsTree (item_lt spec) m root height s → (list : List Item) × IsRootLeft m n height s list root r × IsTakenOut spec x s.pairs y list × Sorted (item_lt spec) list
out_left spec m n root height x y r s f t =
    let g = f null s t in
    (g.0, record { here = t.here; left = g.1 }, g.2, taken_sorted spec x s.pairs g.0 y g.2 t.order)

pub removed_none : (spec : Elements) (m o : Buckets) (p : DiskLoc) (h : ℕ) (s : Sub) (x : Item) (y : Option Item) (list : List Item) → y ≡ None → IsTakenOut spec x s.pairs y list → Sorted (item_lt spec) s.pairs → ((t : Sub) × IsChanged (item_lt spec) m o p h s list t)
    → (t : Sub) × IsChanged (item_lt spec) m o p h s (without spec x s.pairs) t
removed_none spec m o p h s x y list e k so c =
    subst (λ (xs : List Item). (t : Sub) × IsChanged (item_lt spec) m o p h s xs t) (taken_is spec x s.pairs list (subst (λ (z : Option Item). IsTakenOut spec x s.pairs z list) e k) so) c

pub removed_some : (spec : Elements) (m n o : Buckets) (p q : DiskLoc) (h k : ℕ) (s t : Sub) (x z : Item) (y : Option Item) (list : List Item) → y ≡ Some z → IsTakenOut spec x s.pairs y list → Sorted (item_lt spec) s.pairs → IsChanged (item_lt spec) m n p h s list t
    → ((u : Sub) × IsChanged (item_lt spec) n o q k t (exchanged spec x z t.pairs) u) → (u : Sub) × IsChanged (item_lt spec) m o q k s (without spec x s.pairs) u
removed_some spec m n o p q h k s t x z y list e w so a b =
    let w2 : IsTakenOut spec x s.pairs (Some z) list = subst (λ (v : Option Item). IsTakenOut spec x s.pairs v list) e w in (
      b.0,
      record {
        tree = b.1.tree;
        holds = b.1.holds ∙ (ap (exchanged spec x z) a.holds ∙ stead_is spec x z s.pairs list w2 so);
        moved = moves_trans m n o s.places t.places b.0.places a.moved b.1.moved;
      },
    )

pub stead_ready : (spec : Elements) (x z : Item) (y : Option Item) (s : Sub) (list ts : List Item) → y ≡ Some z → IsTakenOut spec x s.pairs y list → ts ≡ list → IsLacking spec x ts → ⊥
stead_ready spec x z y s list ts e w is h = stead_there spec x z s.pairs list (subst (λ (v : Option Item). IsTakenOut spec x s.pairs v list) e w) (subst (IsLacking spec x) is h)

pub stead_sorted : (spec : Elements) (x z : Item) (y : Option Item) (s : Sub) (list ts : List Item) → y ≡ Some z → IsTakenOut spec x s.pairs y list → ts ≡ list → Sorted (item_lt spec) s.pairs → Sorted (item_lt spec) (exchanged spec x z ts)
stead_sorted spec x z y s list ts e w is so =
    let w2 : IsTakenOut spec x s.pairs (Some z) list = subst (λ (v : Option Item). IsTakenOut spec x s.pairs v list) e w in
    subst (Sorted (item_lt spec)) (sym (ap (exchanged spec x z) is ∙ stead_is spec x z s.pairs list w2 so)) (without_sorted spec x s.pairs so)

-- two answers that are one
abbrev value_or : {P : Type 0} → P → Option P → P
value_or d None = d
value_or d (Some x) = x

pub some_same : {P : Type 0} (x y : P) → Some x ≡ Some y → x ≡ y
some_same x y e = ap (value_or x) e
