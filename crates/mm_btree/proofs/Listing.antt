-- What is listed below a place is what the subtree there holds; the parts of the list, and which of its pairs lie between two bounds.
use Rattle.std.proofs.Common.{◌≡◌, ◌⊎◌, inl, inr, ℕ, zero, suc, ◌<◌, ◌≤◌, Bool, true, false, not, ◌&&◌, List, [], ◌∷◌, ◌++◌, length, map, take, drop, filter, get_or, Option, Some, None, refl, sym, ap, ◌∙◌, subst, arith, append_assoc, append-nil}
use Rattle.std.proofs.Math.Seq.{drop-cons}
use Rattle.std.proofs.lemmas.List.{length-take-le, length-drop, map-append, take-append-drop}
use Rattle.std.proofs.lemmas.List.Elements.{filter-append}
use Rattle.std.specs.List.{AllByRecursion}
use Rattle.std.specs.Cmp.{IsTotalOrder}
use Rattle.std.specs.declared.cmp.Ordering.{Ordering}
use Rattle.std.specs.declared.cmp.Ordering.TheVariants.{Less, Equal, Greater}
use Rattle.std.specs.Ordering.{ordering_reverse, is_lt, is_gt}
use Rattle.mm_base.specs.declared.place.DiskLoc.{DiskLoc}
use Rattle.mm_bson.specs.Tree.{Elements}
use Rattle.mm_bson.specs.Walk.{document_in}
use Rattle.mm_keys.specs.KeyOrder.{key_compare}
use Rattle.mm_keys.proofs.Totals.{key_compare_total}
use Rattle.mm_btree.specs.Nodes.{Item, Buckets}
use Rattle.mm_btree.specs.Lists.{front, back, weave, Sorted}
use Rattle.mm_btree.specs.Trees.{Sub, at_of, pairs_of, Stands}
use Rattle.mm_btree.specs.Order.{item_lt, IsBelow}
use Rattle.mm_btree.specs.Listed.{pairs_in, kids_in, listed, rec_of, reaches, stays, lies, between}
use Rattle.mm_btree.proofs.ListLaws.{weave-at, sorted-right}
use Rattle.mm_btree.proofs.Searched.{key_of_lesser, front_below}

lists_are : (m : Buckets) (up : DiskLoc) (h : ℕ) → ((c : Sub) → Stands m up 1 h c → c.pairs ≡ listed m h c.at) → (cs : List Sub) → AllByRecursion (Stands m up 1 h) cs → map pairs_of cs ≡ map (listed m h) (map at_of cs)
lists_are m up h ih [] a = refl
lists_are m up h ih (c ∷ cs) a = ap (λ xs. xs ∷ map pairs_of cs) (ih c a.0) ∙ ap (λ xss. listed m h c.at ∷ xss) (lists_are m up h ih cs a.1)

pub listed_is : (m : Buckets) (up : DiskLoc) (least h : ℕ) (s : Sub) → Stands m up least h s → s.pairs ≡ listed m h s.at
listed_is m up least zero s t =
    t.2.pairs
    ∙ (ap (λ (cs : List Sub). weave (map pairs_of cs) t.0) t.3
    ∙ sym (ap pairs_in t.2.bucket))
listed_is m up least (suc h) s t =
    t.2.pairs
    ∙ (ap (λ xss. weave xss t.0) (lists_are m s.at h (λ c k. listed_is m s.at 1 h c k) t.1 t.3.1)
    ∙ sym (ap (λ b. weave (map (listed m h) (kids_in b)) (pairs_in b)) t.2.bucket))

-- ---- parts of the list

-- one child's list and the pair after it
front_more : {P : Type 0} (ls : List (List P)) (ps : List P) (i : ℕ) (l : List P) (p : P) → i < length ls → i < length ps → front (take (suc i) ls) (take (suc i) ps) ≡ front (take i ls) (take i ps) ++ (get_or ls i l ++ get_or ps i p ∷ [])
front_more [] ps i l p lt up = absurd (omega (arith, lt))
front_more (x ∷ ls) [] i l p lt up = absurd (omega (arith, up))
front_more (x ∷ ls) (y ∷ ps) zero l p lt up = refl
front_more (x ∷ ls) (y ∷ ps) (suc i) l p lt up =
    ap (λ zs. x ++ y ∷ zs) (front_more ls ps i l p (omega (arith, lt)) (omega (arith, up)))
    ∙ sym (append_assoc x (y ∷ front (take i ls) (take i ps)) (get_or ls i l ++ get_or ps i p ∷ []))

-- what stands in front of the i-th list, the list, and what stands behind it
record IsWoven {P : Type 0} (ls : List (List P)) (ps : List P) (i : ℕ) (l : List P) : Type 0 where
  long : length (take i ls) ≡ length (take i ps)
  short : length (drop (suc i) ls) ≡ length (drop i ps)
  whole : weave ls ps ≡ front (take i ls) (take i ps) ++ (get_or ls i l ++ back (drop (suc i) ls) (drop i ps))

woven_at : {P : Type 0} (ls : List (List P)) (ps : List P) (i : ℕ) (l : List P) → length ls ≡ suc (length ps) → i ≤ length ps → IsWoven ls ps i l
woven_at ls ps i l count le =
    let long : length (take i ls) ≡ length (take i ps) = length-take-le i ls (omega (arith, count, le)) ∙ sym (length-take-le i ps le) in
    record {
      long = long;
      short = omega (arith, length-drop (suc i) ls, length-drop i ps, count, le);
      whole =
          ap (λ xs. weave xs ps) (sym (take-append-drop i ls) ∙ ap (λ xs. take i ls ++ xs) (drop-cons ls i l (omega (arith, count, le))))
          ∙ (ap (weave (take i ls ++ get_or ls i l ∷ drop (suc i) ls)) (sym (take-append-drop i ps))
          ∙ weave-at (take i ls) (get_or ls i l) (drop (suc i) ls) (take i ps) (drop i ps) long);
    }

-- ---- which pairs lie between

all_so : (A B : Item → Type 0) (xs : List Item) → ((p : Item) → A p → B p) → AllByRecursion A xs → AllByRecursion B xs
all_so A B [] f h = tt
all_so A B (x ∷ xs) f h = (f x h.0, all_so A B xs f h.1)

none_lie : (k : Item → Bool) (xs : List Item) → AllByRecursion (λ p. k p ≡ false) xs → filter k xs ≡ []
none_lie k [] h = refl
none_lie k (x ∷ xs) h = rw h.0 (none_lie k xs h.1)

all_lie : (k : Item → Bool) (xs : List Item) → AllByRecursion (λ p. k p ≡ true) xs → filter k xs ≡ xs
all_lie k [] h = refl
all_lie k (x ∷ xs) h = rw h.0 (ap (λ ys. x ∷ ys) (all_lie k xs h.1))

not_reached : (spec : Elements) (low high : Option Elements) (p : Item) → reaches spec low p ≡ false → lies spec low high p ≡ false
not_reached spec low high p e = rw e refl

not_within : (spec : Elements) (low high : Option Elements) (p : Item) → stays spec high p ≡ false → lies spec low high p ≡ false
not_within spec low high p e = rw e (by (reaches spec low p))
  where
    by : (b : Bool) → (b && false) ≡ false
    by true = refl
    by false = refl

pub both_lie : (spec : Elements) (low high : Option Elements) (p : Item) → reaches spec low p ≡ true → stays spec high p ≡ true → lies spec low high p ≡ true
both_lie spec low high p e f = rw (e, f) refl

between-append : (spec : Elements) (low high : Option Elements) (xs ys : List Item) → between spec low high (xs ++ ys) ≡ between spec low high xs ++ between spec low high ys
between-append spec low high xs ys = ap (map rec_of) (filter-append (lies spec low high) xs ys) ∙ map-append rec_of (filter (lies spec low high) xs) (filter (lies spec low high) ys)

pub none_before : (spec : Elements) (low high : Option Elements) (xs : List Item) → AllByRecursion (λ p. reaches spec low p ≡ false) xs → between spec low high xs ≡ []
none_before spec low high xs h = ap (map rec_of) (none_lie (lies spec low high) xs (all_so (λ p. reaches spec low p ≡ false) (λ p. lies spec low high p ≡ false) xs (not_reached spec low high) h))

pub none_behind : (spec : Elements) (low high : Option Elements) (xs : List Item) → AllByRecursion (λ p. stays spec high p ≡ false) xs → between spec low high xs ≡ []
none_behind spec low high xs h = ap (map rec_of) (none_lie (lies spec low high) xs (all_so (λ p. stays spec high p ≡ false) (λ p. lies spec low high p ≡ false) xs (not_within spec low high) h))

pub all_between : (spec : Elements) (low high : Option Elements) (xs : List Item) → AllByRecursion (λ p. lies spec low high p ≡ true) xs → between spec low high xs ≡ map rec_of xs
all_between spec low high xs h = ap (map rec_of) (all_lie (lies spec low high) xs h)

-- ---- what the order of the pairs says of the children between

not_lt : (o : Ordering) → not (is_lt o) ≡ false → o ≡ Less
not_lt Less e = refl
not_lt Equal e = absurd cc
not_lt Greater e = absurd cc

not_gt : (o : Ordering) → not (is_gt o) ≡ false → o ≡ Greater
not_gt Less e = absurd cc
not_gt Equal e = absurd cc
not_gt Greater e = refl

front_unreached : (spec : Elements) (low : Option Elements) (ls : List (List Item)) (ps rest : List Item) → length ls ≡ length ps → Sorted (item_lt spec) (front ls ps ++ rest)
    → AllByRecursion (λ p. reaches spec low p ≡ false) ps → AllByRecursion (λ p. reaches spec low p ≡ false) (front ls ps)
front_unreached spec None [] [] rest e s h = tt
front_unreached spec None [] (p ∷ ps) rest e s h = absurd (omega (arith, e))
front_unreached spec None (l ∷ ls) [] rest e s h = absurd (omega (arith, e))
front_unreached spec None (l ∷ ls) (p ∷ ps) rest e s h = absurd (let f = h.0 in cc)
front_unreached spec (Some low) ls ps rest e s h =
    all_so (IsBelow spec low) (λ p. reaches spec (Some low) p ≡ false) (front ls ps) (λ p b. ap (λ (o : Ordering). not (is_lt o)) b)
    (front_below spec low ls ps rest e s (all_so (λ p. reaches spec (Some low) p ≡ false) (IsBelow spec low) ps (λ p f. not_lt (key_compare spec (document_in p.key) low) f) h))

-- what stands behind a key that is greater is greater
pub greater_too : (spec key : Elements) (p q : Item) → item_lt spec p q ≡ true → stays spec (Some key) p ≡ false → stays spec (Some key) q ≡ false
greater_too spec key p q e above = ap (λ (o : Ordering). not (is_gt o)) (by (key_of_lesser spec p q e))
  where
    o : IsTotalOrder (key_compare spec)
    o = key_compare_total spec

    by : ((key_compare spec (document_in p.key) (document_in q.key) ≡ Less) ⊎ (key_compare spec (document_in p.key) (document_in q.key) ≡ Equal)) → key_compare spec (document_in q.key) key ≡ Greater
    by (inl f) =
        let under : key_compare spec key (document_in p.key) ≡ Less = o.antisymm key (document_in p.key) ∙ ap ordering_reverse (not_gt (key_compare spec (document_in p.key) key) above) in
        o.antisymm (document_in q.key) key ∙ ap ordering_reverse (o.trans key (document_in p.key) (document_in q.key) under f)
    by (inr f) = sym (o.congr (document_in p.key) (document_in q.key) key f) ∙ not_gt (key_compare spec (document_in p.key) key) above

back_unstayed : (spec : Elements) (high : Option Elements) (ls : List (List Item)) (ps : List Item) → length ls ≡ length ps → Sorted (item_lt spec) (back ls ps)
    → AllByRecursion (λ p. stays spec high p ≡ false) ps → AllByRecursion (λ p. stays spec high p ≡ false) (back ls ps)
back_unstayed spec high [] ps e s h = h
back_unstayed spec high (l ∷ ls) [] e s h = absurd (omega (arith, e))
back_unstayed spec None (l ∷ ls) (p ∷ ps) e s h = absurd (let f = h.0 in cc)
back_unstayed spec (Some high) (l ∷ ls) (p ∷ ps) e s h =
    (h.0, all_so (λ y. item_lt spec p y ≡ true) (λ y. stays spec (Some high) y ≡ false) (l ++ back ls ps) (λ y f. greater_too spec high p y f h.0) s.0)

-- ---- a bucket with children

-- before the first pair that isn't less nothing lies between
pub lists_begin : (spec : Elements) (low high : Option Elements) (ls : List (List Item)) (ps : List Item) (i : ℕ) → length ls ≡ suc (length ps) → i ≤ length ps → Sorted (item_lt spec) (weave ls ps)
    → AllByRecursion (λ p. reaches spec low p ≡ false) (take i ps) → between spec low high (front (take i ls) (take i ps)) ≡ []
lists_begin spec low high ls ps i count le s h =
    let w = woven_at ls ps i [] count le in
    none_before spec low high (front (take i ls) (take i ps))
    (front_unreached spec low (take i ls) (take i ps) (get_or ls i [] ++ back (drop (suc i) ls) (drop i ps)) w.long (subst (Sorted (item_lt spec)) w.whole s) h)

-- one child and the pair behind it
pub lists_more : (spec : Elements) (low high : Option Elements) (ls : List (List Item)) (ps : List Item) (i : ℕ) (p : Item) → length ls ≡ suc (length ps) → i < length ps → lies spec low high (get_or ps i p) ≡ true
    → between spec low high (front (take (suc i) ls) (take (suc i) ps)) ≡ between spec low high (front (take i ls) (take i ps)) ++ (between spec low high (get_or ls i []) ++ rec_of (get_or ps i p) ∷ [])
lists_more spec low high ls ps i p count lt e =
    ap (between spec low high) (front_more ls ps i [] p (omega (arith, count, lt)) lt)
    ∙ (between-append spec low high (front (take i ls) (take i ps)) (get_or ls i [] ++ get_or ps i p ∷ [])
    ∙ ap (λ xs. between spec low high (front (take i ls) (take i ps)) ++ xs)
    (between-append spec low high (get_or ls i []) (get_or ps i p ∷ []) ∙ ap (λ xs. between spec low high (get_or ls i []) ++ xs) (all_between spec low high (get_or ps i p ∷ []) (e, tt))))

-- behind the first pair that is greater nothing lies between
pub lists_end : (spec : Elements) (low high : Option Elements) (ls : List (List Item)) (ps : List Item) (i : ℕ) → length ls ≡ suc (length ps) → i ≤ length ps → Sorted (item_lt spec) (weave ls ps)
    → AllByRecursion (λ p. stays spec high p ≡ false) (drop i ps) → between spec low high (weave ls ps) ≡ between spec low high (front (take i ls) (take i ps)) ++ between spec low high (get_or ls i [])
lists_end spec low high ls ps i count le s h =
    let w = woven_at ls ps i [] count le in
    let F = front (take i ls) (take i ps) in
    let mine = get_or ls i [] in
    let B = back (drop (suc i) ls) (drop i ps) in
    let s2 : Sorted (item_lt spec) B = sorted-right (item_lt spec) mine B (sorted-right (item_lt spec) F (mine ++ B) (subst (Sorted (item_lt spec)) w.whole s)) in
    ap (between spec low high) w.whole
    ∙ (between-append spec low high F (mine ++ B)
    ∙ ap (λ xs. between spec low high F ++ xs)
    (between-append spec low high mine B
    ∙ (ap (λ xs. between spec low high mine ++ xs) (none_behind spec low high B (back_unstayed spec high (drop (suc i) ls) (drop i ps) w.short s2 h))
    ∙ append-nil (between spec low high mine))))

-- ---- a leaf

pub run_is : (spec : Elements) (low high : Option Elements) (ps : List Item) (i k : ℕ) → AllByRecursion (λ p. reaches spec low p ≡ false) (take i ps) → AllByRecursion (λ p. lies spec low high p ≡ true) (take k (drop i ps))
    → AllByRecursion (λ p. stays spec high p ≡ false) (drop k (drop i ps)) → between spec low high ps ≡ map rec_of (take k (drop i ps))
run_is spec low high ps i k before within behind =
    let run = take k (drop i ps) in
    let rest = drop k (drop i ps) in
    ap (between spec low high) (sym (take-append-drop i ps) ∙ ap (λ xs. take i ps ++ xs) (sym (take-append-drop k (drop i ps))))
    ∙ (between-append spec low high (take i ps) (run ++ rest)
    ∙ (ap (λ xs. xs ++ between spec low high (run ++ rest)) (none_before spec low high (take i ps) before)
    ∙ (between-append spec low high run rest
    ∙ (ap (λ xs. between spec low high run ++ xs) (none_behind spec low high rest behind)
    ∙ (append-nil (between spec low high run) ∙ all_between spec low high run within)))))

-- all of them, without bounds
pub all_listed : (spec : Elements) (xs : List Item) → between spec None None xs ≡ map rec_of xs
all_listed spec xs = all_between spec None None xs (every xs)
  where
    every : (ys : List Item) → AllByRecursion (λ p. lies spec None None p ≡ true) ys
    every [] = tt
    every (y ∷ ys) = (refl, every ys)
