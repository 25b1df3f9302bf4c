-- What is owed on the way down to the pair that is taken out, and what is left on the way up.
use Rattle.std.proofs.Common.{◌≡◌, ℕ, zero, suc, ◌+◌, ◌-◌, ◌<◌, ◌≤◌, true, List, [], ◌∷◌, ◌++◌, length, map, take, drop, get_or, remove, Option, Some, None, IsSome, refl, sym, ap, ◌∙◌, subst, arith, append_assoc}
use Rattle.std.proofs.lemmas.List.{length-map, get_or-map, append-nil, take-append-drop, length-drop}
use Rattle.std.proofs.Math.Seq.{drop-cons}
use Rattle.std.specs.List.{AllByRecursion}
use Rattle.std.specs.declared.cmp.Ordering.{Ordering}
use Rattle.std.specs.declared.cmp.Ordering.TheVariants.{Less, Equal, Greater}
use Rattle.std.specs.Ordering.{is_lt, ordering_reverse}
use Rattle.mm_base.specs.Places.{null}
use Rattle.mm_base.specs.declared.place.DiskLoc.{DiskLoc}
use Rattle.mm_bson.specs.Tree.{Elements}
use Rattle.mm_bson.specs.Walk.{document_in}
use Rattle.mm_bucket.specs.Pairs.{Pair, Contents, pair_at, child_at}
use Rattle.mm_bucket.specs.Order.{compare_pair, Belongs, IsFoundAt}
use Rattle.mm_btree.specs.Nodes.{Item, Node, Buckets, item_of, node_of}
use Rattle.mm_btree.specs.Lists.{front, back, weave, Distinct, Sorted}
use Rattle.mm_btree.specs.Trees.{Sub, at_of, pairs_of, IsOver, AreBelow, Stands, Moves, Pending}
use Rattle.mm_btree.specs.Order.{item_compare, item_lt, IsLacking}
use Rattle.mm_btree.specs.Changes.{StandsAt}
use Rattle.mm_btree.specs.Removal.{IsTakenOut, IsWritten, IsLeft, IsBelowRoot, Scene, IsAbove, list_above, IsMended, IsLast, IsOut, IsThere, IsGap}
use Rattle.mm_btree.specs.declared.outcome.Outcome.{Outcome}
use Rattle.mm_btree.proofs.ListLaws.{all-right, all-both, sorted-right}
use Rattle.mm_btree.proofs.Frames.{opened}
use Rattle.mm_btree.proofs.Edits.{kids_none, kids_all, leaf_next}
use Rattle.mm_btree.proofs.Ordered.{item_total}
use Rattle.mm_btree.proofs.InsertCalls.{deeper, bucket_is}
use Rattle.mm_btree.proofs.Inserting.{moves_same, less_least}
use Rattle.mm_btree.proofs.Segments.{Cut, cut, all_get, child_apart, child_sorted}
use Rattle.mm_btree.proofs.Searched.{taken, left_over}
use Rattle.mm_btree.proofs.Exchanges.{removed_node, child_get}
use Rattle.mm_btree.proofs.Removals.{written}
use Rattle.mm_btree.proofs.Takings.{taken_within, mid_of}

-- ---- a leaf

pub leaf_left : (m n : Buckets) (up at : DiskLoc) (least : ℕ) (s : Sub) (qs : List Item) (r : Outcome) → Stands m up least 0 s → Distinct s.places → s.at ≡ at → IsWritten m n at (record { parent = up; pairs = qs; kids = [] }) r → IsLeft m n up 0 s qs r
leaf_left m n up at least s qs r t d here w =
    let bk = t.2 in
    let p : Pending m m s.at 0 s.places qs qs t.1 = record {
      below = t.3;
      woven = ap (λ (xs : List Sub). weave (map pairs_of xs) qs) t.3;
      apart = subst Distinct bk.places d;
      moved = subst (Moves m m s.places) bk.places (moves_same m s.places);
    } in
    written m m n up 0 s qs qs t.1 p (λ e. let there = bk.bucket in cc) r
    (subst (λ (xs : List Sub). IsWritten m n s.at (record { parent = up; pairs = qs; kids = map at_of xs }) r) (sym t.3)
    (subst (λ (q : DiskLoc). IsWritten m n q (record { parent = up; pairs = qs; kids = [] }) r) (sym here) w))

leaf_bucket : (m : Buckets) (up at : DiskLoc) (least : ℕ) (s : Sub) (b : Node) → Stands m up least 0 s → s.at ≡ at → m at ≡ Some b → b ≡ record { parent = up; pairs = s.pairs; kids = [] }
leaf_bucket m up at least s b t here e =
    bucket_is m at up s b t.0 t.1 least here t.2 e
    ∙ ((let pairs : t.0 ≡ s.pairs = sym (t.2.pairs ∙ ap (λ (xs : List Sub). weave (map pairs_of xs) t.0) t.3) in let kids = ap (map at_of) t.3 in λ i. record { parent = up; pairs = pairs i; kids = kids i }))

leaf_gone : (m n : Buckets) (up at : DiskLoc) (least : ℕ) (s : Sub) (b c : Contents) (i : ℕ) (r : Outcome) → Stands m up least 0 s → Distinct s.places → s.at ≡ at → m at ≡ Some (node_of b) → c ≡ record b { pairs = remove b.pairs i } → IsWritten m n at (node_of c) r
    → IsLeft m n up 0 s (remove s.pairs i) r
leaf_gone m n up at least s b c i r t d here e is w =
    let whole = leaf_bucket m up at least s (node_of b) t here e in
    let next = leaf_next b (ap (λ (z : Node). z.kids) whole) in
    let node : node_of c ≡ record { parent = up; pairs = remove s.pairs i; kids = [] } = removed_node b c i next is ∙ ap (λ (z : Node). record { parent = z.parent; pairs = remove z.pairs i; kids = [] }) whole in
    leaf_left m n up at least s (remove s.pairs i) r t d here (subst (λ (z : Node). IsWritten m n at z r) node w)

-- ---- a bucket above a leaf

pub record IsOpen (m : Buckets) (at : DiskLoc) (h : ℕ) (b : Node) (up : DiskLoc) (s : Sub) (ps : List Item) (cs : List Sub) : Type 0 where
  pub here : s.at ≡ at
  pub over : IsOver m up 1 s ps cs
  pub below : AreBelow (Stands m s.at 1 h) ps cs
  pub apart : Distinct s.places
  pub bucket : b ≡ record { parent = up; pairs = ps; kids = map at_of cs }

abbrev pub Opens : Buckets → DiskLoc → ℕ → Node → DiskLoc → Sub → Type 0
Opens m at h b up s = (ps : List Item) × (cs : List Sub) × IsOpen m at h b up s ps cs

open_stands : (m : Buckets) (at up : DiskLoc) (h : ℕ) (s : Sub) (b : Node) → Stands m up 1 (suc h) s → Distinct s.places → s.at ≡ at → m at ≡ Some b → Opens m at h b up s
open_stands m at up h s b t d here e = (t.0, t.1, record { here = here; over = t.2; below = t.3; apart = d; bucket = bucket_is m at up s b t.0 t.1 1 here t.2 e })

pub open_below : (m : Buckets) (at up : DiskLoc) (height : ℕ) (s : Sub) (b : Node) → IsBelowRoot m up height s at → 0 < height → m at ≡ Some b → Opens m at (height - 1) b up s
open_below m at up height s b k l e = open_stands m at up (height - 1) s b (subst (λ (z : ℕ). Stands m up 1 z s) (deeper height l) k.stands) k.apart k.here e

pub open_at : (spec : Elements) (m : Buckets) (at up : DiskLoc) (height : ℕ) (s : Sub) (b : Node) → StandsAt (item_lt spec) m up height s at → 0 < height → m at ≡ Some b → Opens m at (height - 1) b up s
open_at spec m at up height s b k l e =
    let k2 : StandsAt (item_lt spec) m up (suc (height - 1)) s at = subst (λ (z : ℕ). StandsAt (item_lt spec) m up z s at) (deeper height l) k in
    open_stands m at up (height - 1) s b k2.stands k2.apart k2.here e

open_next : (m : Buckets) (at up : DiskLoc) (h : ℕ) (s : Sub) (b : Contents) → Opens m at h (node_of b) up s → b.next ≡ null → ⊥
open_next m at up h s b o f =
    let none : ◌≡◌ {A = List DiskLoc} [] (map at_of o.1) = sym (kids_none b f) ∙ ap (λ (z : Node). z.kids) o.2.bucket in
    omega (arith, ap length none, length-map o.1 at_of, o.2.below.0)

pub open_pairs : (m : Buckets) (at up : DiskLoc) (h : ℕ) (s : Sub) (b : Contents) → (o : Opens m at h (node_of b) up s) → map item_of b.pairs ≡ o.0
open_pairs m at up h s b o = ap (λ (z : Node). z.pairs) o.2.bucket

open_long : (m : Buckets) (at up : DiskLoc) (h : ℕ) (s : Sub) (b : Contents) → (o : Opens m at h (node_of b) up s) → length o.0 ≡ length b.pairs
open_long m at up h s b o = sym (ap length (open_pairs m at up h s b o)) ∙ length-map b.pairs item_of

open_kid : (m : Buckets) (at up : DiskLoc) (h : ℕ) (s : Sub) (b : Contents) (i : ℕ) → (o : Opens m at h (node_of b) up s) → i ≤ length b.pairs → (get_or o.1 i s).at ≡ child_at b i
open_kid m at up h s b i o le =
    sym (get_or-map at_of o.1 i s null (omega (arith, o.2.below.0, open_long m at up h s b o, le)))
    ∙ (ap (λ (z : Node). get_or z.kids i null) (sym o.2.bucket)
    ∙ (ap (λ (xs : List DiskLoc). get_or xs i null) (kids_all b (open_next m at up h s b o)) ∙ child_get b i le))

pub open_cut : (m : Buckets) (at up : DiskLoc) (h : ℕ) (s : Sub) (b : Contents) (i : ℕ) → (o : Opens m at h (node_of b) up s) → i ≤ length b.pairs → Cut s o.0 o.1 i
open_cut m at up h s b i o le = cut s o.0 o.1 i o.2.below.0 (omega (arith, open_long m at up h s b o, le)) o.2.over.pairs

-- the child at a place
pub kid_root : (m : Buckets) (at up : DiskLoc) (h : ℕ) (s : Sub) (b : Contents) (i : ℕ) (kid : DiskLoc) → (o : Opens m at h (node_of b) up s) → i ≤ length b.pairs → kid ≡ child_at b i → IsBelowRoot m s.at h (get_or o.1 i s) kid
kid_root m at up h s b i kid o le is =
    let k = open_cut m at up h s b i o le in
    record {
      here = open_kid m at up h s b i o le ∙ sym is;
      stands = all_get (Stands m s.at 1 h) o.1 i s k.inside o.2.below.1;
      apart = child_apart s o.0 o.1 i k (subst Distinct o.2.over.places o.2.apart).1;
    }

-- what is told to the bucket above, once the child has become something
abbrev pub scene_of : Buckets → DiskLoc → ℕ → Sub → List Item → List Sub → List Item → Scene
scene_of m up h s ps cs mine = record { m = m; up = up; h = h; s = s; ps = ps; cs = cs; mine = mine }

pub above_of : (m n : Buckets) (at up : DiskLoc) (h : ℕ) (s : Sub) (b : Contents) (i : ℕ) (mine : List Item) (out : Outcome) → (o : Opens m at h (node_of b) up s) → i ≤ length b.pairs → IsLeft m n s.at h (get_or o.1 i s) mine out
    → IsAbove (scene_of m up h s o.0 o.1 mine) n at (node_of b) i out
above_of m n at up h s b i mine out o le l = record {
  here = o.2.here;
  over = o.2.over;
  bucket = o.2.bucket;
  below = o.2.below;
  apart = o.2.apart;
  inside = omega (arith, open_long m at up h s b o, le);
  child = l;
}

raised_left : (m n : Buckets) (up : DiskLoc) (height : ℕ) (s : Sub) (list : List Item) (r : Outcome) → 0 < height → IsLeft m n up (suc (height - 1)) s list r → IsLeft m n up height s list r
raised_left m n up height s list r l w = subst (λ (z : ℕ). IsLeft m n up z s list r) (sym (deeper height l)) w

-- ---- the last pair

take_end : (ps : List Pair) (i : ℕ) → i + 1 ≡ length ps → map item_of ps ≡ remove (map item_of ps) i ++ item_of (pair_at ps i) ∷ []
take_end [] i e = absurd (omega (arith, e))
take_end (p ∷ []) zero e = refl
take_end (p ∷ []) (suc i) e = absurd (omega (arith, e))
take_end (p ∷ q ∷ ps) zero e = absurd (omega (arith, e))
take_end (p ∷ q ∷ ps) (suc i) e = ap (λ xs. item_of p ∷ xs) (take_end (q ∷ ps) i (omega (arith, e)))

pub last_of_leaf : (m n : Buckets) (at : DiskLoc) (height : ℕ) (b c : Contents) (i : ℕ) (y : Item) (r : Outcome) → height ≡ 0 → m at ≡ Some (node_of b) → i + 1 ≡ length b.pairs → c ≡ record b { pairs = remove b.pairs i } → y ≡ item_of (pair_at b.pairs i)
    → IsWritten m n at (node_of c) r → IsLast m n at height y r
last_of_leaf m n at height b c i y r low e last is ey w up s k =
    let t : Stands m up 1 0 s = subst (λ (z : ℕ). Stands m up 1 z s) low k.stands in
    let pairs : map item_of b.pairs ≡ s.pairs = ap (λ (z : Node). z.pairs) (leaf_bucket m up at 1 s (node_of b) t k.here e) in (
      remove s.pairs i,
      subst (λ (z : ℕ). IsLeft m n up z s (remove s.pairs i) r) (sym low) (leaf_gone m n up at 1 s b c i r t k.apart k.here e is w),
      sym pairs ∙ (take_end b.pairs i last ∙ (let same = sym ey in λ j. remove (pairs j) i ++ same j ∷ [])),
    )

pub last_above : (m n o : Buckets) (at kid : DiskLoc) (height : ℕ) (b : Contents) (i : ℕ) (y : Item) (below out : Outcome) → 0 < height → m at ≡ Some (node_of b) → i ≡ length b.pairs → kid ≡ child_at b i → IsLast m n kid (height - 1) y below
    → ((w : Scene) → IsAbove w n at (node_of b) i below → IsMended w o i out) → IsLast m o at height y out
last_above m n o at kid height b i y below out l e last is f g up s k =
    let op = open_below m at up height s (node_of b) k l e in
    let le : i ≤ length b.pairs = omega (arith, last) in
    let mine = f s.at (get_or op.1 i s) (kid_root m at up (height - 1) s b i kid op le is) in
    let c = open_cut m at up (height - 1) s b i op le in
    let w = scene_of m up (height - 1) s op.0 op.1 mine.0 in
    let F = front (map pairs_of (take i op.1)) (take i op.0) in
    let none : back (map pairs_of (drop (suc i) op.1)) (drop i op.0) ≡ [] = ends (map pairs_of (drop (suc i) op.1)) (drop i op.0) (omega (arith, c.short, length-drop i op.0, open_long m at up (height - 1) s b op, last)) (omega (arith, length-drop i op.0, open_long m at up (height - 1) s b op, last)) in (
      list_above op.0 op.1 i mine.0,
      raised_left m o up height s (list_above op.0 op.1 i mine.0) out l (g w (above_of m n at up (height - 1) s b i mine.0 below op le mine.1)),
      c.woven
          ∙ ((let same = mine.2 in λ j. F ++ (same j ++ none j))
          ∙ (ap (λ xs. F ++ xs) (append-nil (mine.0 ++ y ∷ []))
          ∙ (sym (append_assoc F mine.0 (y ∷ []))
          ∙ ap (λ xs. xs ++ y ∷ []) (ap (λ xs. F ++ xs) (sym (append-nil mine.0)) ∙ ap (λ xs. F ++ (mine.0 ++ xs)) (sym none))))),
    )
  where
    ends : (ls : List (List Item)) (ps : List Item) → length ls ≡ 0 → length ps ≡ 0 → back ls ps ≡ []
    ends [] [] e f = refl
    ends [] (p ∷ ps) e f = absurd (omega (arith, f))
    ends (x ∷ ls) ps e f = absurd (omega (arith, e))

-- ---- where the pair stands

there_drop : (spec : Elements) (ps : List Item) (x : Item) (i : ℕ) → (t : IsThere spec ps x i) → drop i ps ≡ t.parts.0 ∷ drop (suc i) ps
there_drop spec ps x i t = by ps i t.inside t.parts.1
  where
    z : Item
    z = t.parts.0

    by : (ps : List Item) (i : ℕ) → i < length ps → ps ≡ take i ps ++ z ∷ drop (suc i) ps → drop i ps ≡ z ∷ drop (suc i) ps
    by [] i lt e = absurd (omega (arith, lt))
    by (p ∷ ps) zero lt e = e
    by (p ∷ ps) (suc i) lt e = by ps i (omega (arith, lt)) (ap (drop 1) e)

pub out_of_leaf : (spec : Elements) (m n : Buckets) (at : DiskLoc) (height : ℕ) (b c : Contents) (i : ℕ) (x : Item) (r : Outcome) → height ≡ 0 → m at ≡ Some (node_of b) → IsThere spec (map item_of b.pairs) x i → c ≡ record b { pairs = remove b.pairs i }
    → IsWritten m n at (node_of c) r → IsOut spec m n at height x None r
out_of_leaf spec m n at height b c i x r low e t is w up s k =
    let k2 : StandsAt (item_lt spec) m up 0 s at = subst (λ (z : ℕ). StandsAt (item_lt spec) m up z s at) low k in
    let pairs : map item_of b.pairs ≡ s.pairs = ap (λ (z : Node). z.pairs) (leaf_bucket m up at 0 s (node_of b) k2.stands k2.here e) in
    let t2 : IsThere spec s.pairs x i = subst (λ (ps : List Item). IsThere spec ps x i) pairs t in (
      remove s.pairs i,
      subst (λ (z : ℕ). IsLeft m n up z s (remove s.pairs i) r) (sym low) (leaf_gone m n up at 0 s b c i r k2.stands k2.apart k2.here e is w),
      (take i s.pairs, drop (suc i) s.pairs, t2.parts.0, t2.parts.1, refl, t2.parts.2),
    )

pub out_above : (spec : Elements) (m n o : Buckets) (at kid : DiskLoc) (height : ℕ) (b : Contents) (i : ℕ) (x y : Item) (below out : Outcome) → 0 < height → m at ≡ Some (node_of b) → IsThere spec (map item_of b.pairs) x i → kid ≡ child_at b i → IsLast m n kid (height - 1) y below
    → ((w : Scene) → IsAbove w n at (node_of b) i below → IsMended w o i out) → IsOut spec m o at height x (Some y) out
out_above spec m n o at kid height b i x y below out l e t is f g up s k =
    let op = open_at spec m at up height s (node_of b) k l e in
    let lt : i < length b.pairs = omega (arith, t.inside, length-map b.pairs item_of) in
    let le : i ≤ length b.pairs = omega (arith, lt) in
    let mine = f s.at (get_or op.1 i s) (kid_root m at up (height - 1) s b i kid op le is) in
    let c = open_cut m at up (height - 1) s b i op le in
    let w = scene_of m up (height - 1) s op.0 op.1 mine.0 in
    let t2 : IsThere spec op.0 x i = subst (λ (ps : List Item). IsThere spec ps x i) (open_pairs m at up (height - 1) s b op) t in
    let F = front (map pairs_of (take i op.1)) (take i op.0) in
    let z = t2.parts.0 in
    let kids = ap (map pairs_of) (drop-cons op.1 (suc i) s (omega (arith, op.2.below.0, open_long m at up (height - 1) s b op, lt))) in
    let G = (get_or op.1 (suc i) s).pairs ++ back (map pairs_of (drop (suc (suc i)) op.1)) (drop (suc i) op.0) in
    let B : back (map pairs_of (drop (suc i) op.1)) (drop i op.0) ≡ z ∷ G = (let pairs = there_drop spec op.0 x i t2 in λ j. back (kids j) (pairs j)) in (
      list_above op.0 op.1 i mine.0,
      raised_left m o up height s (list_above op.0 op.1 i mine.0) out l (g w (above_of m n at up (height - 1) s b i mine.0 below op le mine.1)),
      (
        F ++ mine.0,
        G,
        z,
        c.woven ∙ ((let same = mine.2 in λ j. F ++ (same j ++ B j)) ∙ mid_of F mine.0 (y ∷ []) (z ∷ G)),
        ap (λ xs. F ++ (mine.0 ++ xs)) B ∙ sym (append_assoc F mine.0 (z ∷ G)),
        t2.parts.2,
      ),
    )

-- ---- where it doesn't

less_differs : (spec : Elements) (x p : Item) → item_lt spec p x ≡ true → item_compare spec p x ≡ Equal → ⊥
less_differs spec x p e f = by (item_compare spec p x) e f
  where
    by : (o : Ordering) → is_lt o ≡ true → o ≡ Equal → ⊥
    by Less a b = cc
    by Equal a b = cc
    by Greater a b = cc

more_differs : (spec : Elements) (x p : Item) → item_lt spec x p ≡ true → item_compare spec p x ≡ Equal → ⊥
more_differs spec x p e f = by (item_compare spec x p) e ((item_total spec).antisymm x p ∙ ap ordering_reverse f)
  where
    by : (o : Ordering) → is_lt o ≡ true → o ≡ Equal → ⊥
    by Less a b = cc
    by Equal a b = cc
    by Greater a b = cc

all_so : (A B : Item → Type 0) (xs : List Item) → ((p : Item) → A p → B p) → AllByRecursion A xs → AllByRecursion B xs
all_so A B [] f h = tt
all_so A B (x ∷ xs) f h = (f x h.0, all_so A B xs f h.1)

-- what stands before a lesser pair is less, and what stands behind a greater one is greater
less_is : (o : Ordering) → is_lt o ≡ true → o ≡ Less
less_is Less e = refl
less_is Equal e = absurd cc
less_is Greater e = absurd cc

chain : (spec : Elements) (x y z : Item) → item_lt spec x y ≡ true → item_lt spec y z ≡ true → item_lt spec x z ≡ true
chain spec x y z e f = ap is_lt ((item_total spec).trans x y z (less_is (item_compare spec x y) e) (less_is (item_compare spec y z) f))

before_one : (spec : Elements) (x p : Item) (xs ys : List Item) → Sorted (item_lt spec) (xs ++ p ∷ ys) → item_lt spec p x ≡ true → AllByRecursion (λ y. item_lt spec y x ≡ true) xs
before_one spec x p [] ys s e = tt
before_one spec x p (y ∷ xs) ys s e = (chain spec y p x (all-right (λ z. item_lt spec y z ≡ true) xs (p ∷ ys) s.0).0 e, before_one spec x p xs ys s.1 e)

front_less : (spec : Elements) (x : Item) (ls : List (List Item)) (ps rest : List Item) → length ls ≡ length ps → Sorted (item_lt spec) (front ls ps ++ rest) → AllByRecursion (λ p. item_lt spec p x ≡ true) ps → AllByRecursion (λ y. item_lt spec y x ≡ true) (front ls ps)
front_less spec x [] [] rest e s h = tt
front_less spec x [] (p ∷ ps) rest e s h = absurd (omega (arith, e))
front_less spec x (l ∷ ls) [] rest e s h = absurd (omega (arith, e))
front_less spec x (l ∷ ls) (p ∷ ps) rest e s h =
    let s2 : Sorted (item_lt spec) (l ++ p ∷ (front ls ps ++ rest)) = subst (Sorted (item_lt spec)) (append_assoc l (p ∷ front ls ps) rest) s in
    all-both (λ y. item_lt spec y x ≡ true) l (p ∷ front ls ps) (before_one spec x p l (front ls ps ++ rest) s2 h.0)
    (h.0, front_less spec x ls ps rest (omega (arith, e)) (sorted-right (item_lt spec) l (p ∷ (front ls ps ++ rest)) s2).1 h.1)

back_more : (spec : Elements) (x : Item) (ls : List (List Item)) (ps : List Item) → length ls ≡ length ps → Sorted (item_lt spec) (back ls ps) → AllByRecursion (λ p. item_lt spec x p ≡ true) ps → AllByRecursion (λ y. item_lt spec x y ≡ true) (back ls ps)
back_more spec x [] ps e s h = h
back_more spec x (l ∷ ls) [] e s h = absurd (omega (arith, e))
back_more spec x (l ∷ ls) (p ∷ ps) e s h = (h.0, all_so (λ y. item_lt spec p y ≡ true) (λ y. item_lt spec x y ≡ true) (l ++ back ls ps) (λ y f. chain spec x p y h.0 f) s.0)

pub gap_lacks : (spec : Elements) (ps : List Item) (x : Item) (i : ℕ) → IsGap spec ps x i → IsLacking spec x ps
gap_lacks spec ps x i g =
    subst (IsLacking spec x) (take-append-drop i ps)
    (all-both (λ y. item_compare spec y x ≡ Equal → ⊥) (take i ps) (drop i ps)
    (all_so (λ p. item_lt spec p x ≡ true) (λ y. item_compare spec y x ≡ Equal → ⊥) (take i ps) (less_differs spec x) g.before)
    (all_so (λ p. item_lt spec x p ≡ true) (λ y. item_compare spec y x ≡ Equal → ⊥) (drop i ps) (more_differs spec x) g.behind))

-- the pairs before the child at a gap, and those behind
pub around_lack : (spec : Elements) (s : Sub) (ps : List Item) (cs : List Sub) (x : Item) (i : ℕ) → Cut s ps cs i → Sorted (item_lt spec) s.pairs → IsGap spec ps x i
    → IsLacking spec x (front (map pairs_of (take i cs)) (take i ps)) × IsLacking spec x (back (map pairs_of (drop (suc i) cs)) (drop i ps))
around_lack spec s ps cs x i k so g =
    let F = front (map pairs_of (take i cs)) (take i ps) in
    let B = back (map pairs_of (drop (suc i) cs)) (drop i ps) in
    let mine = (get_or cs i s).pairs in
    let s2 : Sorted (item_lt spec) (F ++ (mine ++ B)) = subst (Sorted (item_lt spec)) k.woven so in
    let s3 : Sorted (item_lt spec) B = sorted-right (item_lt spec) mine B (sorted-right (item_lt spec) F (mine ++ B) s2) in (
      all_so (λ p. item_lt spec p x ≡ true) (λ y. item_compare spec y x ≡ Equal → ⊥) F (less_differs spec x) (front_less spec x (map pairs_of (take i cs)) (take i ps) (mine ++ B) k.long s2 g.before),
      all_so (λ p. item_lt spec x p ≡ true) (λ y. item_compare spec y x ≡ Equal → ⊥) B (more_differs spec x) (back_more spec x (map pairs_of (drop (suc i) cs)) (drop i ps) k.short s3 g.behind),
    )

-- the child at a gap, in order
pub kid_stands : (spec : Elements) (m : Buckets) (at up : DiskLoc) (height : ℕ) (s : Sub) (b : Contents) (i : ℕ) (kid : DiskLoc) → StandsAt (item_lt spec) m up height s at → (o : Opens m at (height - 1) (node_of b) up s) → i ≤ length b.pairs → kid ≡ child_at b i
    → StandsAt (item_lt spec) m s.at (height - 1) (get_or o.1 i s) kid
kid_stands spec m at up height s b i kid k o le is =
    let r = kid_root m at up (height - 1) s b i kid o le is in
    record {
      here = r.here;
      stands = less_least m s.at (height - 1) (get_or o.1 i s) r.stands;
      apart = r.apart;
      order = child_sorted (item_lt spec) s o.0 o.1 i (open_cut m at up (height - 1) s b i o le) k.order;
    }

pub missing_above : (spec : Elements) (m : Buckets) (at kid : DiskLoc) (height : ℕ) (b : Contents) (i : ℕ) (x : Item) → 0 < height → m at ≡ Some (node_of b) → IsGap spec (map item_of b.pairs) x i → kid ≡ child_at b i
    → ((up : DiskLoc) (s : Sub) → StandsAt (item_lt spec) m up (height - 1) s kid → IsLacking spec x s.pairs) → (up : DiskLoc) (s : Sub) → StandsAt (item_lt spec) m up height s at → IsLacking spec x s.pairs
missing_above spec m at kid height b i x l e g is f up s k =
    let op = open_at spec m at up height s (node_of b) k l e in
    let le : i ≤ length b.pairs = omega (arith, g.inside, length-map b.pairs item_of) in
    let c = open_cut m at up (height - 1) s b i op le in
    let g2 : IsGap spec op.0 x i = subst (λ (ps : List Item). IsGap spec ps x i) (open_pairs m at up (height - 1) s b op) g in
    let a = around_lack spec s op.0 op.1 x i c k.order g2 in
    let F = front (map pairs_of (take i op.1)) (take i op.0) in
    let B = back (map pairs_of (drop (suc i) op.1)) (drop i op.0) in
    let mine = (get_or op.1 i s).pairs in
    let A : Item → Type 0 = λ y. item_compare spec y x ≡ Equal → ⊥ in
    subst (IsLacking spec x) (sym c.woven) (all-both A F (mine ++ B) a.0 (all-both A mine B (f s.at (get_or op.1 i s) (kid_stands spec m at up height s b i kid k op le is)) a.1))

pub missing_in_leaf : (spec : Elements) (m : Buckets) (at : DiskLoc) (height : ℕ) (b : Contents) (i : ℕ) (x : Item) → height ≡ 0 → m at ≡ Some (node_of b) → IsGap spec (map item_of b.pairs) x i
    → (up : DiskLoc) (s : Sub) → StandsAt (item_lt spec) m up height s at → IsLacking spec x s.pairs
missing_in_leaf spec m at height b i x low e g up s k =
    let k2 : StandsAt (item_lt spec) m up 0 s at = subst (λ (z : ℕ). StandsAt (item_lt spec) m up z s at) low k in
    let pairs : map item_of b.pairs ≡ s.pairs = ap (λ (z : Node). z.pairs) (leaf_bucket m up at 0 s (node_of b) k2.stands k2.here e) in
    subst (IsLacking spec x) pairs (gap_lacks spec (map item_of b.pairs) x i g)

pub out_below : (spec : Elements) (m n o : Buckets) (at kid : DiskLoc) (height : ℕ) (b : Contents) (i : ℕ) (x : Item) (y : Option Item) (below out : Outcome) → 0 < height → m at ≡ Some (node_of b) → IsGap spec (map item_of b.pairs) x i → kid ≡ child_at b i
    → IsOut spec m n kid (height - 1) x y below → ((w : Scene) → IsAbove w n at (node_of b) i below → IsMended w o i out) → IsOut spec m o at height x y out
out_below spec m n o at kid height b i x y below out l e g is f h up s k =
    let op = open_at spec m at up height s (node_of b) k l e in
    let le : i ≤ length b.pairs = omega (arith, g.inside, length-map b.pairs item_of) in
    let c = open_cut m at up (height - 1) s b i op le in
    let mine = f s.at (get_or op.1 i s) (kid_stands spec m at up height s b i kid k op le is) in
    let F = front (map pairs_of (take i op.1)) (take i op.0) in
    let B = back (map pairs_of (drop (suc i) op.1)) (drop i op.0) in (
      list_above op.0 op.1 i mine.0,
      raised_left m o up height s (list_above op.0 op.1 i mine.0) out l (h (scene_of m up (height - 1) s op.0 op.1 mine.0) (above_of m n at up (height - 1) s b i mine.0 below op le mine.1)),
      subst (λ (xs : List Item). IsTakenOut spec x xs y (F ++ (mine.0 ++ B))) (sym c.woven) (taken_within spec x F B (get_or op.1 i s).pairs mine.0 y mine.2),
    )

-- ---- what the search in a bucket answers

parts_at : (ps : List Pair) (i : ℕ) → i < length ps → map item_of ps ≡ take i (map item_of ps) ++ item_of (pair_at ps i) ∷ drop (suc i) (map item_of ps)
parts_at [] i lt = absurd (omega (arith, lt))
parts_at (p ∷ ps) zero lt = refl
parts_at (p ∷ ps) (suc i) lt = ap (λ xs. item_of p ∷ xs) (parts_at ps i (omega (arith, lt)))

pub there_is : (spec : Elements) (ps : List Pair) (x : Item) (i : ℕ) → IsFoundAt spec ps (document_in x.key) x.rec i → IsThere spec (map item_of ps) x i
there_is spec ps x i f = record {
  inside = omega (arith, f.inside, length-map ps item_of);
  parts = (item_of (pair_at ps i), parts_at ps i f.inside, f.equal);
}

is_less : (o : Ordering) → o ≡ Less → is_lt o ≡ true
is_less o e = ap is_lt e

is_more : (o p : Ordering) → p ≡ ordering_reverse o → o ≡ Greater → is_lt p ≡ true
is_more Less p e f = absurd cc
is_more Equal p e f = absurd cc
is_more Greater p e f = ap is_lt e

pub gap_is : (spec : Elements) (ps : List Pair) (x : Item) (i : ℕ) → Belongs spec ps (document_in x.key) x.rec i → IsGap spec (map item_of ps) x i
gap_is spec ps x i b = record {
  inside = omega (arith, b.inside, length-map ps item_of);
  before = taken (λ p. item_lt spec p x ≡ true) ps i (λ j lt. is_less (compare_pair spec (pair_at ps j) (document_in x.key) x.rec) (b.below j lt)) b.inside;
  behind = left_over (λ p. item_lt spec x p ≡ true) ps i (λ j le lt. is_more (item_compare spec (item_of (pair_at ps j)) x) (item_compare spec x (item_of (pair_at ps j))) ((item_total spec).antisymm x (item_of (pair_at ps j))) (b.above j le lt));
}

-- ---- the way down

pub below_some : (m : Buckets) (at : DiskLoc) (height : ℕ) → ((up : DiskLoc) × (s : Sub) × IsBelowRoot m up height s at) → IsSome (m at)
below_some m at height t = let o = opened m t.0 1 height t.1 t.2.stands in subst IsSome (sym o.2.bucket ∙ ap m t.2.here) refl

-- its bucket has a pair
pub below_pair : (m : Buckets) (at : DiskLoc) (height : ℕ) (b : Contents) → ((up : DiskLoc) × (s : Sub) × IsBelowRoot m up height s at) → m at ≡ Some (node_of b) → 1 ≤ length b.pairs
below_pair m at height b t e =
    let o = opened m t.0 1 height t.1 t.2.stands in
    let is = bucket_is m at t.0 t.1 (node_of b) o.0 o.1 1 t.2.here o.2 e in
    omega (arith, o.2.some, ap (λ (z : Node). length z.pairs) is, length-map b.pairs item_of)

pub last_kid : (m : Buckets) (at kid : DiskLoc) (height : ℕ) (b : Contents) (i : ℕ) → ((up : DiskLoc) × (s : Sub) × IsBelowRoot m up height s at) → 0 < height → m at ≡ Some (node_of b) → i ≤ length b.pairs → kid ≡ child_at b i
    → (up : DiskLoc) × (s : Sub) × IsBelowRoot m up (height - 1) s kid
last_kid m at kid height b i t l e le is =
    let o = open_below m at t.0 height t.1 (node_of b) t.2 l e in
    (t.1.at, get_or o.1 i t.1, kid_root m at t.0 (height - 1) t.1 b i kid o le is)

pub last_scene : (m n : Buckets) (at kid : DiskLoc) (height : ℕ) (b : Contents) (i : ℕ) (y : Item) (r : Outcome) → ((up : DiskLoc) × (s : Sub) × IsBelowRoot m up height s at) → 0 < height → m at ≡ Some (node_of b) → i ≤ length b.pairs → kid ≡ child_at b i → IsLast m n kid (height - 1) y r
    → (w : Scene) × IsAbove w n at (node_of b) i r
last_scene m n at kid height b i y r t l e le is f =
    let o = open_below m at t.0 height t.1 (node_of b) t.2 l e in
    let mine = f t.1.at (get_or o.1 i t.1) (kid_root m at t.0 (height - 1) t.1 b i kid o le is) in
    (scene_of m t.0 (height - 1) t.1 o.0 o.1 mine.0, above_of m n at t.0 (height - 1) t.1 b i mine.0 r o le mine.1)

-- the same from a subtree in order
pub out_kid : (spec : Elements) (m : Buckets) (at kid : DiskLoc) (height : ℕ) (b : Contents) (i : ℕ) → ((up : DiskLoc) × (s : Sub) × StandsAt (item_lt spec) m up height s at) → 0 < height → m at ≡ Some (node_of b) → i ≤ length b.pairs → kid ≡ child_at b i
    → (up : DiskLoc) × (s : Sub) × IsBelowRoot m up (height - 1) s kid
out_kid spec m at kid height b i t l e le is =
    let o = open_at spec m at t.0 height t.1 (node_of b) t.2 l e in
    (t.1.at, get_or o.1 i t.1, kid_root m at t.0 (height - 1) t.1 b i kid o le is)

pub out_scene : (spec : Elements) (m n : Buckets) (at kid : DiskLoc) (height : ℕ) (b : Contents) (i : ℕ) (y : Item) (r : Outcome) → ((up : DiskLoc) × (s : Sub) × StandsAt (item_lt spec) m up height s at) → 0 < height → m at ≡ Some (node_of b) → i ≤ length b.pairs → kid ≡ child_at b i → IsLast m n kid (height - 1) y r
    → (w : Scene) × IsAbove w n at (node_of b) i r
out_scene spec m n at kid height b i y r t l e le is f =
    let o = open_at spec m at t.0 height t.1 (node_of b) t.2 l e in
    let mine = f t.1.at (get_or o.1 i t.1) (kid_root m at t.0 (height - 1) t.1 b i kid o le is) in
    (scene_of m t.0 (height - 1) t.1 o.0 o.1 mine.0, above_of m n at t.0 (height - 1) t.1 b i mine.0 r o le mine.1)

pub gap_kid : (spec : Elements) (m : Buckets) (at kid : DiskLoc) (height : ℕ) (b : Contents) (i : ℕ) → ((up : DiskLoc) × (s : Sub) × StandsAt (item_lt spec) m up height s at) → 0 < height → m at ≡ Some (node_of b) → i ≤ length b.pairs → kid ≡ child_at b i
    → (up : DiskLoc) × (s : Sub) × StandsAt (item_lt spec) m up (height - 1) s kid
gap_kid spec m at kid height b i t l e le is =
    let o = open_at spec m at t.0 height t.1 (node_of b) t.2 l e in
    (t.1.at, get_or o.1 i t.1, kid_stands spec m at t.0 height t.1 b i kid t.2 o le is)

pub gap_scene : (spec : Elements) (m n : Buckets) (at kid : DiskLoc) (height : ℕ) (b : Contents) (i : ℕ) (x : Item) (y : Option Item) (r : Outcome) → ((up : DiskLoc) × (s : Sub) × StandsAt (item_lt spec) m up height s at) → 0 < height → m at ≡ Some (node_of b) → i ≤ length b.pairs → kid ≡ child_at b i → IsOut spec m n kid (height - 1) x y r
    → (w : Scene) × IsAbove w n at (node_of b) i r
gap_scene spec m n at kid height b i x y r t l e le is f =
    let o = open_at spec m at t.0 height t.1 (node_of b) t.2 l e in
    let mine = f t.1.at (get_or o.1 i t.1) (kid_stands spec m at t.0 height t.1 b i kid t.2 o le is) in
    (scene_of m t.0 (height - 1) t.1 o.0 o.1 mine.0, above_of m n at t.0 (height - 1) t.1 b i mine.0 r o le mine.1)
