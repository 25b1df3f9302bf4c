-- The first pair of an equal key is in the child that a search chose, or at the place in the bucket, or nowhere.
use Rattle.std.proofs.Common.{◌≡◌, ◌⊎◌, inl, inr, ℕ, zero, suc, ◌-◌, ◌<◌, ◌≤◌, Bool, true, false, List, [], ◌∷◌, ◌++◌, length, map, take, drop, get_or, slice_get, Option, Some, None, IsSome, cond, refl, sym, ap, ◌∙◌, subst, arith, append_assoc}
use Rattle.std.specs.List.{AllByRecursion}
use Rattle.std.specs.declared.cmp.Ordering.{Ordering}
use Rattle.std.specs.declared.cmp.Ordering.TheVariants.{Less, Equal, Greater}
use Rattle.std.specs.Ordering.{ordering_then, ordering_reverse, is_lt, is_eq}
use Rattle.std.proofs.lemmas.List.{length-map, take-append-drop}
use Rattle.mm_base.specs.declared.place.DiskLoc.{DiskLoc}
use Rattle.mm_bson.specs.Tree.{Elements}
use Rattle.mm_bson.specs.Walk.{document_in}
use Rattle.mm_keys.specs.KeyOrder.{key_compare}
use Rattle.mm_keys.proofs.Totals.{key_compare_total}
use Rattle.mm_base.specs.Places.{null}
use Rattle.mm_bucket.specs.Pairs.{Pair, Contents, pair_at, child_at}
use Rattle.mm_bucket.specs.Order.{place_compare}
use Rattle.mm_btree.specs.Nodes.{Item, Node, Buckets, item_of, node_of}
use Rattle.mm_btree.specs.Lists.{front, back, weave, Sorted}
use Rattle.mm_btree.specs.Trees.{Sub, at_of, pairs_of, IsOver}
use Rattle.mm_btree.specs.Changes.{StandsAt}
use Rattle.mm_btree.specs.Order.{item_lt, first_with, IsBelow, IsNotBelow, IsKeyPlace, IsFirst}
use Rattle.mm_btree.proofs.ListLaws.{all-right, all-both, sorted-right}
use Rattle.mm_btree.proofs.Segments.{Cut}
use Rattle.mm_btree.proofs.Inserting.{child}
use Rattle.mm_btree.proofs.Ordered.{item_chains, all_back, sorted_weave}
use Rattle.mm_btree.proofs.Edits.{kids_none, kids_all, child_is}
use Rattle.mm_btree.proofs.InsertCalls.{bucket_is, lower}

-- ---- keys of pairs in order

-- a lesser pair has a lesser key, or an equal one
key_from : (o r : Ordering) → is_lt (ordering_then o r) ≡ true → (o ≡ Less) ⊎ (o ≡ Equal)
key_from Less r e = inl refl
key_from Equal r e = inr refl
key_from Greater r e = absurd cc

pub key_of_lesser : (spec : Elements) (p q : Item) → item_lt spec p q ≡ true → (key_compare spec (document_in p.key) (document_in q.key) ≡ Less) ⊎ (key_compare spec (document_in p.key) (document_in q.key) ≡ Equal)
key_of_lesser spec p q e = key_from (key_compare spec (document_in p.key) (document_in q.key)) (place_compare p.rec q.rec) e

-- what stands before a key that is less is less
pub below_before : (spec key : Elements) (p q : Item) → item_lt spec p q ≡ true → IsBelow spec key q → IsBelow spec key p
below_before spec key p q e below = by (key_of_lesser spec p q e)
  where
    by : ((key_compare spec (document_in p.key) (document_in q.key) ≡ Less) ⊎ (key_compare spec (document_in p.key) (document_in q.key) ≡ Equal)) → IsBelow spec key p
    by (inl f) = (key_compare_total spec).trans (document_in p.key) (document_in q.key) key f below
    by (inr f) = (key_compare_total spec).congr (document_in p.key) (document_in q.key) key f ∙ below

-- what stands behind a key that is greater isn't equal
greater_behind : (spec key : Elements) (p q : Item) → item_lt spec p q ≡ true → key_compare spec (document_in p.key) key ≡ Greater → key_compare spec (document_in q.key) key ≡ Equal → ⊥
greater_behind spec key p q e above same = by (key_of_lesser spec p q e)
  where
    differ : (o : Ordering) → o ≡ Greater → o ≡ Less → ⊥
    differ o f g = cc

    tie : (o : Ordering) → o ≡ Greater → o ≡ Equal → ⊥
    tie o f g = cc

    swapped : (o r : Ordering) → o ≡ ordering_reverse r → r ≡ Equal → o ≡ Equal
    swapped o r f g = f ∙ ap ordering_reverse g

    by : ((key_compare spec (document_in p.key) (document_in q.key) ≡ Less) ⊎ (key_compare spec (document_in p.key) (document_in q.key) ≡ Equal)) → ⊥
    by (inl f) =
        let o = key_compare_total spec in
        let turned = swapped (key_compare spec key (document_in q.key)) (key_compare spec (document_in q.key) key) (o.antisymm key (document_in q.key)) same in
        let back1 : key_compare spec key (document_in p.key) ≡ Greater = o.congr key (document_in q.key) (document_in p.key) turned ∙ (o.antisymm (document_in q.key) (document_in p.key) ∙ ap ordering_reverse f) in
        differ (key_compare spec (document_in p.key) key) above (o.antisymm (document_in p.key) key ∙ ap ordering_reverse back1)
    by (inr f) = tie (key_compare spec (document_in p.key) key) above ((key_compare_total spec).congr (document_in p.key) (document_in q.key) key f ∙ same)

-- ---- the first of an equal key

first_behind : (spec key : Elements) (xs ys : List Item) → AllByRecursion (IsBelow spec key) xs → first_with spec key (xs ++ ys) ≡ first_with spec key ys
first_behind spec key [] ys h = refl
first_behind spec key (x ∷ xs) ys h = rw h.0 (first_behind spec key xs ys h.1)

first_found : (spec key : Elements) (xs ys : List Item) (rec : DiskLoc) → first_with spec key xs ≡ Some rec → first_with spec key (xs ++ ys) ≡ Some rec
first_found spec key [] ys rec e = absurd cc
first_found spec key (x ∷ xs) ys rec e = by (is_eq (key_compare spec (document_in x.key) key)) e (first_found spec key xs ys rec)
  where
    by : (t : Bool) → cond t (Some x.rec) (first_with spec key xs) ≡ Some rec → (first_with spec key xs ≡ Some rec → first_with spec key (xs ++ ys) ≡ Some rec) → cond t (Some x.rec) (first_with spec key (xs ++ ys)) ≡ Some rec
    by true f g = f
    by false f g = g f

first_none : (spec key : Elements) (xs ys : List Item) → first_with spec key xs ≡ None → first_with spec key (xs ++ ys) ≡ first_with spec key ys
first_none spec key [] ys e = refl
first_none spec key (x ∷ xs) ys e = by (is_eq (key_compare spec (document_in x.key) key)) e (first_none spec key xs ys)
  where
    by : (t : Bool) → cond t (Some x.rec) (first_with spec key xs) ≡ None → (first_with spec key xs ≡ None → first_with spec key (xs ++ ys) ≡ first_with spec key ys) → cond t (Some x.rec) (first_with spec key (xs ++ ys)) ≡ first_with spec key ys
    by true f g = absurd cc
    by false f g = g f

-- none is equal behind a greater one
none_behind : (spec key : Elements) (p : Item) (ys : List Item) → AllByRecursion (λ y. item_lt spec p y ≡ true) ys → key_compare spec (document_in p.key) key ≡ Greater → first_with spec key ys ≡ None
none_behind spec key p [] h e = refl
none_behind spec key p (y ∷ ys) h e = by (key_compare spec (document_in y.key) key) refl (none_behind spec key p ys h.1 e)
  where
    by : (o : Ordering) → key_compare spec (document_in y.key) key ≡ o → first_with spec key ys ≡ None → cond (is_eq o) (Some y.rec) (first_with spec key ys) ≡ None
    by Less f g = g
    by Equal f g = absurd (greater_behind spec key p y h.0 e f)
    by Greater f g = g

-- a list that begins with a pair that isn't less, and the same pair before other pairs: the same is found
same_head : (spec key : Elements) (q : Item) (xs ys : List Item) → AllByRecursion (λ y. item_lt spec q y ≡ true) xs → AllByRecursion (λ y. item_lt spec q y ≡ true) ys → IsNotBelow spec key q → first_with spec key (q ∷ xs) ≡ first_with spec key (q ∷ ys)
same_head spec key q xs ys h k up = by (key_compare spec (document_in q.key) key) refl
  where
    by : (o : Ordering) → key_compare spec (document_in q.key) key ≡ o → cond (is_eq o) (Some q.rec) (first_with spec key xs) ≡ cond (is_eq o) (Some q.rec) (first_with spec key ys)
    by Less f = absurd (up f)
    by Equal f = refl
    by Greater f = none_behind spec key q xs h f ∙ sym (none_behind spec key q ys k f)

back_first : (spec key : Elements) (ls : List (List Item)) (qs : List Item) → length ls ≡ length qs → Sorted (item_lt spec) (back ls qs) → AllByRecursion (IsNotBelow spec key) qs → first_with spec key (back ls qs) ≡ first_with spec key qs
back_first spec key [] qs e s h = refl
back_first spec key (l ∷ ls) [] e s h = absurd (omega (arith, e))
back_first spec key (l ∷ ls) (q ∷ qs) e s h =
    let A = λ (y : Item). item_lt spec q y ≡ true in
    same_head spec key q (l ++ back ls qs) qs s.0 (all_back A ls qs (all-right A l (back ls qs) s.0)) h.0

pair_below : (spec key : Elements) (p : Item) (xs ys : List Item) → Sorted (item_lt spec) (xs ++ p ∷ ys) → IsBelow spec key p → AllByRecursion (IsBelow spec key) xs
pair_below spec key p [] ys s b = tt
pair_below spec key p (x ∷ xs) ys s b = (below_before spec key x p (all-right (λ y. item_lt spec x y ≡ true) xs (p ∷ ys) s.0).0 b, pair_below spec key p xs ys s.1 b)

pub front_below : (spec key : Elements) (ls : List (List Item)) (ps rest : List Item) → length ls ≡ length ps → Sorted (item_lt spec) (front ls ps ++ rest) → AllByRecursion (IsBelow spec key) ps → AllByRecursion (IsBelow spec key) (front ls ps)
front_below spec key [] [] rest e s h = tt
front_below spec key [] (p ∷ ps) rest e s h = absurd (omega (arith, e))
front_below spec key (l ∷ ls) [] rest e s h = absurd (omega (arith, e))
front_below spec key (l ∷ ls) (p ∷ ps) rest e s h =
    let s2 : Sorted (item_lt spec) (l ++ p ∷ (front ls ps ++ rest)) = subst (Sorted (item_lt spec)) (append_assoc l (p ∷ front ls ps) rest) s in
    all-both (IsBelow spec key) l (p ∷ front ls ps) (pair_below spec key p l (front ls ps ++ rest) s2 h.0)
    (h.0, front_below spec key ls ps rest (omega (arith, e)) (sorted-right (item_lt spec) l (p ∷ (front ls ps ++ rest)) s2).1 h.1)

-- ---- the search in a bucket

pub all_at : (A : Item → Type 0) (ps : List Pair) (j : ℕ) → AllByRecursion A (map item_of ps) → j < length ps → A (item_of (pair_at ps j))
all_at A [] j h lt = absurd (omega (arith, lt))
all_at A (p ∷ ps) zero h lt = h.0
all_at A (p ∷ ps) (suc j) h lt = all_at A ps j h.1 (omega (arith, lt))

pub less_before : (spec key : Elements) (ps : List Pair) → Sorted (item_lt spec) (map item_of ps) → (i j : ℕ) → i ≤ j → j < length ps → IsBelow spec key (item_of (pair_at ps j)) → IsBelow spec key (item_of (pair_at ps i))
less_before spec key [] s i j le lt b = absurd (omega (arith, lt))
less_before spec key (p ∷ ps) s zero zero le lt b = b
less_before spec key (p ∷ ps) s zero (suc j) le lt b = below_before spec key (item_of p) (item_of (pair_at ps j)) (all_at (λ y. item_lt spec (item_of p) y ≡ true) ps j s.0 (omega (arith, lt))) b
less_before spec key (p ∷ ps) s (suc i) zero le lt b = absurd (omega (arith, le))
less_before spec key (p ∷ ps) s (suc i) (suc j) le lt b = less_before spec key ps s.1 i j (omega (arith, le)) (omega (arith, lt)) b

-- what stands behind a key that isn't less isn't less
pub not_less_from : (spec key : Elements) (ps : List Pair) → Sorted (item_lt spec) (map item_of ps) → (i j : ℕ) → i ≤ j → j < length ps → IsNotBelow spec key (item_of (pair_at ps i)) → IsNotBelow spec key (item_of (pair_at ps j))
not_less_from spec key ps s i j le lt up b = up (less_before spec key ps s i j le lt b)

pub taken : (A : Item → Type 0) (ps : List Pair) (i : ℕ) → ((j : ℕ) → j < i → A (item_of (pair_at ps j))) → i ≤ length ps → AllByRecursion A (take i (map item_of ps))
taken A ps zero f le = tt
taken A [] (suc i) f le = absurd (omega (arith, le))
taken A (p ∷ ps) (suc i) f le = (f 0 (omega arith), taken A ps i (λ j lt. f (suc j) (omega (arith, lt))) (omega (arith, le)))

pub left_over : (A : Item → Type 0) (ps : List Pair) (i : ℕ) → ((j : ℕ) → i ≤ j → j < length ps → A (item_of (pair_at ps j))) → AllByRecursion A (drop i (map item_of ps))
left_over A [] zero f = tt
left_over A [] (suc i) f = tt
left_over A (p ∷ ps) zero f = (f 0 (omega arith) (omega arith), left_over A ps zero (λ j le lt. f (suc j) (omega arith) (omega (arith, lt))))
left_over A (p ∷ ps) (suc i) f = left_over A ps i (λ j le lt. f (suc j) (omega (arith, le)) (omega (arith, lt)))

pub key_place : (spec key : Elements) (ps : List Pair) (i : ℕ) → i ≤ length ps → ((j : ℕ) → j < i → IsBelow spec key (item_of (pair_at ps j))) → ((j : ℕ) → i ≤ j → j < length ps → IsNotBelow spec key (item_of (pair_at ps j)))
    → IsKeyPlace spec key (map item_of ps) i
key_place spec key ps i le f g = record {
  inside = omega (arith, le, length-map ps item_of);
  below = taken (IsBelow spec key) ps i f le;
  above = left_over (IsNotBelow spec key) ps i g;
}

-- ---- the pair at the place

drop_at : (ps : List Pair) (i : ℕ) → i < length ps → drop i (map item_of ps) ≡ item_of (pair_at ps i) ∷ drop (suc i) (map item_of ps)
drop_at [] i lt = absurd (omega (arith, lt))
drop_at (p ∷ ps) zero lt = refl
drop_at (p ∷ ps) (suc i) lt = drop_at ps i (omega (arith, lt))

sorted_drop : (spec : Elements) (xs : List Item) (i : ℕ) → Sorted (item_lt spec) xs → Sorted (item_lt spec) (drop i xs)
sorted_drop spec xs i s = sorted-right (item_lt spec) (take i xs) (drop i xs) (subst (Sorted (item_lt spec)) (sym (take-append-drop i xs)) s)

pub none_at_end : (spec key : Elements) (ps : List Pair) (i : ℕ) → i ≡ length ps → None ≡ first_with spec key (drop i (map item_of ps))
none_at_end spec key ps i e = sym (ap (λ (k : ℕ). first_with spec key (drop k (map item_of ps))) e ∙ end ps)
  where
    end : (qs : List Pair) → first_with spec key (drop (length qs) (map item_of qs)) ≡ None
    end [] = refl
    end (q ∷ qs) = end qs

pub some_there : (spec key : Elements) (ps : List Pair) (i : ℕ) → i < length ps → key_compare spec (document_in (pair_at ps i).key) key ≡ Equal → Some (pair_at ps i).rec ≡ first_with spec key (drop i (map item_of ps))
some_there spec key ps i lt e = sym (ap (first_with spec key) (drop_at ps i lt) ∙ rw e refl)

pub none_there : (spec key : Elements) (ps : List Pair) (i : ℕ) → i < length ps → Sorted (item_lt spec) (map item_of ps) → key_compare spec (document_in (pair_at ps i).key) key ≡ Greater → None ≡ first_with spec key (drop i (map item_of ps))
none_there spec key ps i lt s e =
    let s2 = subst (Sorted (item_lt spec)) (drop_at ps i lt) (sorted_drop spec (map item_of ps) i s) in
    sym (ap (first_with spec key) (drop_at ps i lt) ∙ rw e (none_behind spec key (item_of (pair_at ps i)) (drop (suc i) (map item_of ps)) s2.0 e))

pub not_less_there : (spec key : Elements) (ps : List Pair) (i : ℕ) → i < length ps → IsKeyPlace spec key (map item_of ps) i → key_compare spec (document_in (pair_at ps i).key) key ≡ Less → ⊥
not_less_there spec key ps i lt k e = (subst (AllByRecursion (IsNotBelow spec key)) (drop_at ps i lt) k.above).0 e

-- ---- the calls

-- the subtree at a place that is to be looked into
abbrev pub IsThereAt : Elements → Buckets → DiskLoc → ℕ → Type 0
IsThereAt spec m at height = (up : DiskLoc) × (s : Sub) × StandsAt (item_lt spec) m up height s at

pub read_some : (spec : Elements) (m : Buckets) (at : DiskLoc) (height : ℕ) → IsThereAt spec m at height → IsSome (m at)
read_some spec m at height t = by height t.2
  where
    seen : (ps : List Item) (cs : List Sub) (least : ℕ) → t.1.at ≡ at → IsOver m t.0 least t.1 ps cs → IsSome (m at)
    seen ps cs least here bk = subst IsSome (sym bk.bucket ∙ ap m here) refl

    by : (h : ℕ) → StandsAt (item_lt spec) m t.0 h t.1 at → IsSome (m at)
    by zero sa = let o = sa.stands in seen o.0 o.1 0 sa.here o.2
    by (suc h) sa = let o = sa.stands in seen o.0 o.1 1 sa.here o.2

pub read_sorted : (spec : Elements) (m : Buckets) (at : DiskLoc) (height : ℕ) (b : Node) → IsThereAt spec m at height → m at ≡ Some b → Sorted (item_lt spec) b.pairs
read_sorted spec m at height b t e = by height t.2
  where
    seen : (ps : List Item) (cs : List Sub) (least : ℕ) → t.1.at ≡ at → IsOver m t.0 least t.1 ps cs → Sorted (item_lt spec) t.1.pairs → Sorted (item_lt spec) b.pairs
    seen ps cs least here bk so =
        subst (λ (c : Node). Sorted (item_lt spec) c.pairs) (sym (bucket_is m at t.0 t.1 b ps cs least here bk e))
        (sorted_weave (item_lt spec) (map pairs_of cs) ps (subst (Sorted (item_lt spec)) bk.pairs so))

    by : (h : ℕ) → StandsAt (item_lt spec) m t.0 h t.1 at → Sorted (item_lt spec) b.pairs
    by zero sa = let o = sa.stands in seen o.0 o.1 0 sa.here o.2 sa.order
    by (suc h) sa = let o = sa.stands in seen o.0 o.1 1 sa.here o.2 sa.order

pub found_in_leaf : (spec key : Elements) (m : Buckets) (at : DiskLoc) (height i : ℕ) (b : Node) (r : Option DiskLoc) → height ≡ 0 → m at ≡ Some b → IsKeyPlace spec key b.pairs i → r ≡ first_with spec key (drop i b.pairs) → IsFirst m spec at height key r
found_in_leaf spec key m at height i b r low e k is up s sa =
    let sb : StandsAt (item_lt spec) m up 0 s at = subst (λ (z : ℕ). StandsAt (item_lt spec) m up z s at) low sa in
    let t = sb.stands in
    let same : b.pairs ≡ t.0 = ap (λ (c : Node). c.pairs) (bucket_is m at up s b t.0 t.1 0 sb.here t.2 e) in
    let leaf : s.pairs ≡ t.0 = t.2.pairs ∙ ap (λ (xs : List Sub). weave (map pairs_of xs) t.0) t.3 in
    is ∙ (sym (first_behind spec key (take i b.pairs) (drop i b.pairs) k.below) ∙ ap (first_with spec key) (take-append-drop i b.pairs ∙ (same ∙ sym leaf)))

-- the parts of a subtree's list, as the search sees them
record Parts (spec key : Elements) (s : Sub) (ps : List Item) (cs : List Sub) (i : ℕ) (B : List Item) : Type 0 where
  whole : first_with spec key s.pairs ≡ first_with spec key ((get_or cs i s).pairs ++ B)
  behind : first_with spec key B ≡ first_with spec key (drop i ps)

parts : (spec key : Elements) (s : Sub) (ps : List Item) (cs : List Sub) (i : ℕ) → Cut s ps cs i → Sorted (item_lt spec) s.pairs → IsKeyPlace spec key ps i → Parts spec key s ps cs i (back (map pairs_of (drop (suc i) cs)) (drop i ps))
parts spec key s ps cs i k so pl =
    let F = front (map pairs_of (take i cs)) (take i ps) in
    let B = back (map pairs_of (drop (suc i) cs)) (drop i ps) in
    let mine = (get_or cs i s).pairs in
    let s2 : Sorted (item_lt spec) (F ++ (mine ++ B)) = subst (Sorted (item_lt spec)) k.woven so in
    let s3 : Sorted (item_lt spec) B = sorted-right (item_lt spec) mine B (sorted-right (item_lt spec) F (mine ++ B) s2) in
    record {
      whole = ap (first_with spec key) k.woven ∙ first_behind spec key F (mine ++ B) (front_below spec key (map pairs_of (take i cs)) (take i ps) (mine ++ B) k.long s2 pl.below);
      behind = back_first spec key (map pairs_of (drop (suc i) cs)) (drop i ps) k.short s3 pl.above;
    }

pub kid_there : (spec : Elements) (m : Buckets) (at : DiskLoc) (height i : ℕ) (kid : DiskLoc) (b : Node) → IsThereAt spec m at height → 0 < height → m at ≡ Some b → i ≤ length b.pairs → slice_get b.kids i ≡ Some kid → IsThereAt spec m kid (height - 1)
kid_there spec m at height i kid b t l e le k =
    let s = t.1 in
    let sa = lower spec m at height t.0 s l t.2 in
    let o = sa.stands in
    let is = bucket_is m at t.0 s b o.0 o.1 1 sa.here o.2 e in
    let c = child (item_lt spec) (item_chains spec) m t.0 (height - 1) i kid s o.0 o.1 o.2 o.3 sa.apart sa.order (subst (λ (c : Node). i ≤ length c.pairs) is le) (subst (λ (c : Node). slice_get c.kids i ≡ Some kid) is k) in
    (s.at, get_or o.1 i s, c.1)

pub kid_found : (spec : Elements) (m : Buckets) (at : DiskLoc) (height : ℕ) (b : Contents) (i : ℕ) (kid : DiskLoc) → IsThereAt spec m at height → 0 < height → m at ≡ Some (node_of b) → i ≤ length b.pairs → kid ≡ child_at b i → slice_get (node_of b).kids i ≡ Some kid
kid_found spec m at height b i kid t l e le is =
    let sa = lower spec m at height t.0 t.1 l t.2 in
    let o = sa.stands in
    let same = bucket_is m at t.0 t.1 (node_of b) o.0 o.1 1 sa.here o.2 e in
    let next : b.next ≡ null → ⊥ = λ f. let none : ◌≡◌ {A = List DiskLoc} [] (map at_of o.1) = sym (kids_none b f) ∙ ap (λ (c : Node). c.kids) same in omega (arith, ap length none, length-map o.1 at_of, o.3.0) in
    ap (λ (xs : List DiskLoc). slice_get xs i) (kids_all b next) ∙ (child_is b i le ∙ ap Some (sym is))

pub found_in_child : (spec key : Elements) (m : Buckets) (at : DiskLoc) (height i : ℕ) (kid rec : DiskLoc) (b : Node) → 0 < height → m at ≡ Some b → IsKeyPlace spec key b.pairs i → slice_get b.kids i ≡ Some kid
    → IsFirst m spec kid (height - 1) key (Some rec) → IsFirst m spec at height key (Some rec)
found_in_child spec key m at height i kid rec b l e pl k f up s st =
    let sa = lower spec m at height up s l st in
    let o = sa.stands in
    let is = bucket_is m at up s b o.0 o.1 1 sa.here o.2 e in
    let pl2 : IsKeyPlace spec key o.0 i = subst (λ (c : Node). IsKeyPlace spec key c.pairs i) is pl in
    let c = child (item_lt spec) (item_chains spec) m up (height - 1) i kid s o.0 o.1 o.2 o.3 sa.apart sa.order pl2.inside (subst (λ (c : Node). slice_get c.kids i ≡ Some kid) is k) in
    let p = parts spec key s o.0 o.1 i c.0 sa.order pl2 in
    let mine = f s.at (get_or o.1 i s) c.1 in
    sym (p.whole ∙ first_found spec key (get_or o.1 i s).pairs (back (map pairs_of (drop (suc i) o.1)) (drop i o.0)) rec (sym mine))

pub found_behind : (spec key : Elements) (m : Buckets) (at : DiskLoc) (height i : ℕ) (kid : DiskLoc) (b : Node) (r : Option DiskLoc) → 0 < height → m at ≡ Some b → IsKeyPlace spec key b.pairs i → slice_get b.kids i ≡ Some kid
    → IsFirst m spec kid (height - 1) key None → r ≡ first_with spec key (drop i b.pairs) → IsFirst m spec at height key r
found_behind spec key m at height i kid b r l e pl k f here up s st =
    let sa = lower spec m at height up s l st in
    let o = sa.stands in
    let is = bucket_is m at up s b o.0 o.1 1 sa.here o.2 e in
    let pl2 : IsKeyPlace spec key o.0 i = subst (λ (c : Node). IsKeyPlace spec key c.pairs i) is pl in
    let here2 : r ≡ first_with spec key (drop i o.0) = subst (λ (c : Node). r ≡ first_with spec key (drop i c.pairs)) is here in
    let c = child (item_lt spec) (item_chains spec) m up (height - 1) i kid s o.0 o.1 o.2 o.3 sa.apart sa.order pl2.inside (subst (λ (c : Node). slice_get c.kids i ≡ Some kid) is k) in
    let p = parts spec key s o.0 o.1 i c.0 sa.order pl2 in
    let mine = f s.at (get_or o.1 i s) c.1 in
    here2 ∙ sym (p.whole ∙ (first_none spec key (get_or o.1 i s).pairs (back (map pairs_of (drop (suc i) o.1)) (drop i o.0)) (sym mine) ∙ p.behind))
