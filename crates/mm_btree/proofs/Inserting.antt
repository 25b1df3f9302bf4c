-- A pair is put into a subtree: at a leaf, and where the child that it belongs to has become one or two; and what a whole tree becomes.
use Rattle.std.proofs.lemmas.Option.{get_or_from_slice_get}
use Rattle.std.proofs.lemmas.List.{take-append-drop, length-map, length-append, get_or-map}
use Rattle.std.proofs.Common.{◌≡◌, ◌≢◌, ℕ, zero, suc, ◌≤◌, Bool, true, List, [], ◌∷◌, ◌++◌, length, map, take, drop, get_or, insert, slice_get, Option, Some, None, IsSome, refl, sym, ap, ◌∙◌, subst, arith}
use Rattle.std.specs.List.{AllByRecursion}
use Rattle.mm_base.specs.Places.{null}
use Rattle.mm_base.specs.declared.place.DiskLoc.{DiskLoc}
use Rattle.mm_btree.specs.Nodes.{Item, Node, Buckets}
use Rattle.mm_btree.specs.Changes.{Up, AreThere, IsSettled, StandsAt, least_at, roots_of, between_of, IsPlace, IsInserted, IsTree, IsChanged, rooted_map}
use Rattle.mm_btree.specs.Lists.{weave, has, Distinct, ins, Sorted, Chains, Told}
use Rattle.mm_btree.specs.Trees.{Sub, at_of, pairs_of, IsOver, AreBelow, Stands, Moves, Became, Pending, sub}
use Rattle.mm_btree.proofs.ListLaws.{ins-behind, ins-before}
use Rattle.mm_btree.proofs.Frames.{all_some, roots_in}
use Rattle.mm_btree.proofs.Segments.{settled, all_get, cut, Cut, child_sorted, child_apart, changed_below, ins_there, stays_above, kids_more}
use Rattle.mm_btree.proofs.Rooting.{sorted_ins, rooted, single}

-- ---- what the calls of insertion owe

pub less_least : (m : Buckets) (up : DiskLoc) (h : ℕ) (s : Sub) → Stands m up 1 h s → Stands m up (least_at h) h s
less_least m up zero s t = (t.0, t.1, record { bucket = t.2.bucket; pairs = t.2.pairs; places = t.2.places; some = omega arith }, t.3)
less_least m up (suc h) s t = t

pub moves_same : (m : Buckets) (xs : List DiskLoc) → Moves m m xs xs
moves_same m xs = record { others = λ q k l. refl; fresh = λ q k l. absurd cc; gone = λ q k l. absurd cc }

place_ins : (lt : Item → Item → Bool) (ps : List Item) (x : Item) (i : ℕ) → IsPlace lt ps x i → insert ps i x ≡ ins lt x ps
place_ins lt ps x i pl =
    sym (ap (ins lt x) (sym (take-append-drop i ps))
    ∙ (ins-behind lt x (take i ps) (drop i ps) pl.before
    ∙ ap (λ xs. take i ps ++ xs) (ins-before lt x [] (drop i ps) pl.behind)))

pub leaf_at : (lt : Item → Item → Bool) (m n : Buckets) (x : Item) (i : ℕ) (up : DiskLoc) (s : Sub) (r : Option Up) (b : Node) → Stands m up 0 0 s → Distinct s.places → m s.at ≡ Some b → IsPlace lt b.pairs x i
    → IsSettled m n s.at (record b { pairs = insert b.pairs i x }) r → (ds : List Sub) × Became m n up 0 s.places (ins lt x s.pairs) (roots_of s.at r) (between_of r) ds
leaf_at lt m n x i up s r b t d e pl w =
    let ps = t.0 in
    let cs = t.1 in
    let bk = t.2 in
    let is : b ≡ record { parent = up; pairs = ps; kids = map at_of cs } = let there = bk.bucket in cc in
    let pl2 : IsPlace lt ps x i = subst (λ (c : Node). IsPlace lt c.pairs x i) is pl in
    let w2 = subst (λ (c : Node). IsSettled m n s.at (record c { pairs = insert c.pairs i x }) r) is w in
    let some : m s.at ≢ None = λ f. cc in
    settled m m n up s.at 0 s.places (ins lt x s.pairs) (insert ps i x) cs
    (omega (arith, length-append (take i ps) (x ∷ drop i ps)))
    (record {
      below = t.3;
      woven = subst (λ (xs : List Sub). weave (map pairs_of xs) (insert ps i x) ≡ ins lt x (weave (map pairs_of xs) ps)) (sym t.3) (place_ins lt ps x i pl2) ∙ ap (ins lt x) (sym bk.pairs);
      apart = subst Distinct bk.places d;
      moved = subst (Moves m m s.places) bk.places (moves_same m s.places);
    }) some r w2

-- the child at a place
pub child : (lt : Item → Item → Bool) → Chains lt → (m : Buckets) (up : DiskLoc) (h i : ℕ) (kid : DiskLoc) (s : Sub) (ps : List Item) (cs : List Sub) → IsOver m up 1 s ps cs → AreBelow (Stands m s.at 1 h) ps cs → Distinct s.places → Sorted lt s.pairs → i ≤ length ps
    → slice_get (map at_of cs) i ≡ Some kid → Cut s ps cs i × StandsAt lt m s.at h (get_or cs i s) kid
child lt ch m up h i kid s ps cs b t d so le e =
    let k = cut s ps cs i t.0 le b.pairs in (
      k,
      record {
        here = sym (get_or-map at_of cs i s null k.inside) ∙ get_or_from_slice_get (map at_of cs) i kid null e;
        stands = less_least m s.at h (get_or cs i s) (all_get (Stands m s.at 1 h) cs i s k.inside t.1);
        apart = child_apart s ps cs i k (subst Distinct b.places d).1;
        order = child_sorted lt s ps cs i k so;
      },
    )

pub inner_none : (lt : Item → Item → Bool) → Chains lt → (m n : Buckets) (x : Item) (i : ℕ) (up : DiskLoc) (h : ℕ) (kid : DiskLoc) (s : Sub) (b : Node) → Stands m up 1 (suc h) s → Distinct s.places → Sorted lt s.pairs → m s.at ≡ Some b → IsPlace lt b.pairs x i
    → slice_get b.kids i ≡ Some kid → IsInserted lt m n kid h x s.at None → (ds : List Sub) × Became m n up (suc h) s.places (ins lt x s.pairs) (s.at ∷ []) [] ds
inner_none lt ch m n x i up h kid s b t d so e pl at f =
    let ps = t.0 in
    let cs = t.1 in
    let bk = t.2 in
    let is : b ≡ record { parent = up; pairs = ps; kids = map at_of cs } = let there = bk.bucket in cc in
    let pl2 : IsPlace lt ps x i = subst (λ (c : Node). IsPlace lt c.pairs x i) is pl in
    let at2 = subst (λ (c : Node). slice_get c.kids i ≡ Some kid) is at in
    let k = child lt ch m up h i kid s ps cs bk t.3 d so pl2.inside at2 in
    let g = f (get_or cs i s) k.1 in
    let roots = g.1.placed in
    let c = changed_below m n up 1 h i s ps cs (ins lt x (get_or cs i s).pairs) (kid ∷ []) [] g.0 bk t.3 k.0 d g.1 (omega (arith, length-map g.0 at_of, ap length roots)) in
    let p = subst (λ (xs : List Item). Pending m n s.at (suc h) s.places xs (take i ps ++ ([] ++ drop i ps)) (take i cs ++ (g.0 ++ drop (suc i) cs)))
    (ins_there lt ch x i s ps cs k.0 so pl2.before pl2.behind) c.0 in
    stays_above m n up 1 h i s ps cs (ins lt x (get_or cs i s).pairs) (ins lt x s.pairs) g.0 bk bk.some k.0 (roots ∙ ap (λ z. z ∷ []) (sym k.1.here)) p c.1

-- the child has become two: what the bucket above is to be, and that it is there, with all its children
pub record Waits (lt : Item → Item → Bool) (n : Buckets) (h i : ℕ) (s : Sub) (m : Buckets) (u : Up) (x : Item) (ps : List Item) (cs cs2 : List Sub) : Type 0 where
  pub pending : Pending m n s.at (suc h) s.places (ins lt x s.pairs) (insert ps i u.mid) cs2
  pub kids : map at_of cs2 ≡ insert (map at_of cs) (suc i) u.right
  pub above : n s.at ≡ m s.at

pub waits : (lt : Item → Item → Bool) → Chains lt → (m n : Buckets) (x : Item) (i : ℕ) (up : DiskLoc) (h : ℕ) (kid : DiskLoc) (s : Sub) (ps : List Item) (cs : List Sub) (u : Up) → IsOver m up 1 s ps cs → AreBelow (Stands m s.at 1 h) ps cs → Distinct s.places → Sorted lt s.pairs
    → IsPlace lt ps x i → slice_get (map at_of cs) i ≡ Some kid → IsInserted lt m n kid h x s.at (Some u) → (cs2 : List Sub) × Waits lt n h i s m u x ps cs cs2
waits lt ch m n x i up h kid s ps cs u bk below d so pl at f =
    let k = child lt ch m up h i kid s ps cs bk below d so pl.inside at in
    let g = f (get_or cs i s) k.1 in
    let roots = g.1.placed in
    let c = changed_below m n up 1 h i s ps cs (ins lt x (get_or cs i s).pairs) (kid ∷ u.right ∷ []) (u.mid ∷ []) g.0 bk below k.0 d g.1 (omega (arith, length-map g.0 at_of, ap length roots)) in
    let cs2 = take i cs ++ (g.0 ++ drop (suc i) cs) in (
      cs2,
      record {
        pending = subst (λ (xs : List Item). Pending m n s.at (suc h) s.places xs (insert ps i u.mid) cs2) (ins_there lt ch x i s ps cs k.0 so pl.before pl.behind) c.0;
        kids = kids_more cs g.0 i u.right s k.0.inside (roots ∙ ap (λ z. z ∷ u.right ∷ []) (sym k.1.here));
        above = c.1;
      },
    )

pub inner_some : (lt : Item → Item → Bool) → Chains lt → (m n n2 : Buckets) (x : Item) (i : ℕ) (up : DiskLoc) (h : ℕ) (kid : DiskLoc) (s : Sub) (b : Node) (u : Up) (r : Option Up) → Stands m up 1 (suc h) s → Distinct s.places → Sorted lt s.pairs → m s.at ≡ Some b → IsPlace lt b.pairs x i
    → slice_get b.kids i ≡ Some kid → IsInserted lt m n kid h x s.at (Some u)
    → IsSettled n n2 s.at (record b { pairs = insert b.pairs i u.mid; kids = insert b.kids (suc i) u.right }) r
    → (ds : List Sub) × Became m n2 up (suc h) s.places (ins lt x s.pairs) (roots_of s.at r) (between_of r) ds
inner_some lt ch m n n2 x i up h kid s b u r t d so e pl at f w =
    let ps = t.0 in
    let cs = t.1 in
    let bk = t.2 in
    let is : b ≡ record { parent = up; pairs = ps; kids = map at_of cs } = let there = bk.bucket in cc in
    let pl2 : IsPlace lt ps x i = subst (λ (c : Node). IsPlace lt c.pairs x i) is pl in
    let at2 = subst (λ (c : Node). slice_get c.kids i ≡ Some kid) is at in
    let v = waits lt ch m n x i up h kid s ps cs u bk t.3 d so pl2 at2 f in
    let w2 = subst (λ (c : Node). IsSettled n n2 s.at (record c { pairs = insert c.pairs i u.mid; kids = insert c.kids (suc i) u.right }) r) is w in
    let w3 = subst (λ (xs : List DiskLoc). IsSettled n n2 s.at (record { parent = up; pairs = insert ps i u.mid; kids = xs }) r) (sym v.1.kids) w2 in
    let some : n s.at ≢ None = λ f. let there = bk.bucket in let same = v.1.above in cc in
    settled m n n2 up s.at (suc h) s.places (ins lt x s.pairs) (insert ps i u.mid) v.0 (omega (arith, length-append (take i ps) (u.mid ∷ drop i ps))) v.1.pending some r w3

-- the bucket above is there, and so are all its children
pub inner_there : (lt : Item → Item → Bool) → Chains lt → (m n : Buckets) (x : Item) (i : ℕ) (up : DiskLoc) (h : ℕ) (kid : DiskLoc) (s : Sub) (b : Node) (u : Up) → Stands m up 1 (suc h) s → Distinct s.places → Sorted lt s.pairs → m s.at ≡ Some b → IsPlace lt b.pairs x i
    → slice_get b.kids i ≡ Some kid → IsInserted lt m n kid h x s.at (Some u) → IsSome (n s.at) × AreThere n (insert b.kids (suc i) u.right)
inner_there lt ch m n x i up h kid s b u t d so e pl at f =
    let ps = t.0 in
    let cs = t.1 in
    let bk = t.2 in
    let is : b ≡ record { parent = up; pairs = ps; kids = map at_of cs } = let there = bk.bucket in cc in
    let pl2 : IsPlace lt ps x i = subst (λ (c : Node). IsPlace lt c.pairs x i) is pl in
    let at2 = subst (λ (c : Node). slice_get c.kids i ≡ Some kid) is at in
    let v = waits lt ch m n x i up h kid s ps cs u bk t.3 d so pl2 at2 f in
    let kids : insert b.kids (suc i) u.right ≡ map at_of v.0 = ap (λ (c : Node). insert c.kids (suc i) u.right) is ∙ sym v.1.kids in (
      subst IsSome (sym (v.1.above ∙ bk.bucket)) refl,
      λ q has_it. some_from (n q) (all_some n s.at h v.0 v.1.pending.below.1 q (roots_in n s.at h v.0 v.1.pending.below.1 q (subst (λ (xs : List DiskLoc). has q xs ≡ true) kids has_it))),
    )
  where
    some_from : (o : Option Node) → o ≢ None → IsSome o
    some_from None h = absurd (h refl)
    some_from (Some b) h = refl

-- ---- the tree as a whole

pub whole_none : (lt : Item → Item → Bool) → Chains lt → (m n : Buckets) (root : DiskLoc) (h : ℕ) (x : Item) (s : Sub) → IsInserted lt m n root h x null None → IsTree lt m root h s → AllByRecursion (Told lt x) s.pairs → (t : Sub) × IsChanged lt m n root h s (ins lt x s.pairs) t
whole_none lt ch m n root h x s f t out =
    let g = f s t in
    let k = single m n null h root s.places (ins lt x s.pairs) g.0 g.1 in (
      k.0,
      record {
        tree = record { here = k.1; stands = less_least n null h k.0 k.2; apart = k.4; order = subst (Sorted lt) (sym k.3) (sorted_ins lt ch x s.pairs out t.order) };
        holds = k.3;
        moved = k.5;
      },
    )

pub whole_some : (lt : Item → Item → Bool) → Chains lt → (m n n2 : Buckets) (root : DiskLoc) (h : ℕ) (x : Item) (p : DiskLoc) (u : Up) (s : Sub) → IsInserted lt m n root h x null (Some u) → n p ≡ None → ((q : DiskLoc) → n2 q ≡ rooted_map n p root u q)
    → IsTree lt m root h s → AllByRecursion (Told lt x) s.pairs → (t : Sub) × IsChanged lt m n2 p (suc h) s (ins lt x s.pairs) t
whole_some lt ch m n n2 root h x p u s f free same t out =
    let g = f s t in
    let r = rooted lt m n n2 h root p s.places (ins lt x s.pairs) u g.0 g.1 (sorted_ins lt ch x s.pairs out t.order) free same in
    (sub p (u.mid ∷ []) g.0, record { tree = r.0; holds = g.1.pairs; moved = r.1 })

pub whole_there : (lt : Item → Item → Bool) (m n : Buckets) (root : DiskLoc) (h : ℕ) (x : Item) (u : Up) (s : Sub) → IsInserted lt m n root h x null (Some u) → IsTree lt m root h s → AreThere n (root ∷ u.right ∷ [])
whole_there lt m n root h x u s f t q e =
    let g = f s t in
    some_from (n q) (all_some n null h g.0 g.1.stand q (roots_in n null h g.0 g.1.stand q (subst (λ (xs : List DiskLoc). has q xs ≡ true) (sym g.1.placed) e)))
  where
    some_from : (o : Option Node) → o ≢ None → IsSome o
    some_from None h = absurd (h refl)
    some_from (Some b) h = refl
