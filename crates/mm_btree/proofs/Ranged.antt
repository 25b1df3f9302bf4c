-- What range's calls are owed, and what they leave, in the words of the bucket that was read.
use Rattle.std.proofs.Common.{◌≡◌, ℕ, zero, suc, ◌+◌, ◌-◌, ◌<◌, ◌≤◌, Bool, true, false, not, List, [], ◌∷◌, ◌++◌, length, map, take, drop, get_or, Option, Some, None, refl, sym, ap, ◌∙◌, subst, arith, append_assoc}
use Rattle.std.proofs.lemmas.List.{length-map, get_or-map, drop-drop}
use Rattle.std.proofs.lemmas.Option.{get_or_from_slice_get}
use Rattle.std.specs.List.{AllByRecursion}
use Rattle.std.specs.declared.cmp.Ordering.{Ordering}
use Rattle.std.specs.declared.cmp.Ordering.TheVariants.{Less, Equal, Greater}
use Rattle.std.specs.Ordering.{is_lt}
use Rattle.mm_base.specs.Places.{null}
use Rattle.mm_base.specs.declared.place.DiskLoc.{DiskLoc}
use Rattle.mm_bson.specs.Tree.{Elements}
use Rattle.mm_bson.specs.Walk.{document_in}
use Rattle.mm_keys.specs.KeyOrder.{key_compare}
use Rattle.mm_bucket.specs.Pairs.{Pair, Contents, blank, pair_at, child_at}
use Rattle.mm_bucket.specs.Rules.{children}
use Rattle.mm_btree.specs.Nodes.{Item, Node, Buckets, item_of, node_of}
use Rattle.mm_btree.specs.Lists.{front, weave, Sorted}
use Rattle.mm_btree.specs.Trees.{Sub, at_of}
use Rattle.mm_btree.specs.Changes.{least_at, IsTree}
use Rattle.mm_btree.specs.Order.{item_lt, IsBelow, IsNotBelow, IsKeyPlace}
use Rattle.mm_btree.specs.Listed.{pairs_in, kids_in, listed, rec_of, reaches, stays, lies, between, IsStart, IsEnd}
use Rattle.mm_btree.proofs.Edits.{kids_none, kids_all, child_is, children_len}
use Rattle.mm_btree.proofs.InsertCalls.{deeper, bucket_is, lower}
use Rattle.mm_btree.proofs.Searched.{IsThereAt, all_at, taken, left_over}
use Rattle.mm_btree.proofs.Listing.{listed_is, both_lie, greater_too, lists_begin, lists_more, lists_end, run_is}

-- ---- the bucket that was read

pub inner_next : (spec : Elements) (m : Buckets) (at : DiskLoc) (height : ℕ) (b : Contents) → IsThereAt spec m at height → 0 < height → m at ≡ Some (node_of b) → b.next ≡ null → ⊥
inner_next spec m at height b t l e f =
    let sa = lower spec m at height t.0 t.1 l t.2 in
    let o = sa.stands in
    let same = bucket_is m at t.0 t.1 (node_of b) o.0 o.1 1 sa.here o.2 e in
    let none : ◌≡◌ {A = List DiskLoc} [] (map at_of o.1) = sym (kids_none b f) ∙ ap (λ (c : Node). c.kids) same in
    omega (arith, ap length none, length-map o.1 at_of, o.3.0)

-- the lists of its children
abbrev pub lists : Buckets → ℕ → Contents → List (List Item)
lists m h b = map (listed m h) (children b)

pub leaf_listed : (m : Buckets) (at : DiskLoc) (height : ℕ) (b : Contents) → height ≡ 0 → m at ≡ Some (node_of b) → listed m height at ≡ map item_of b.pairs
leaf_listed m at height b low e = ap (λ (z : ℕ). listed m z at) low ∙ ap pairs_in e

inner_listed : (m : Buckets) (at : DiskLoc) (height : ℕ) (b : Contents) → 0 < height → m at ≡ Some (node_of b) → (b.next ≡ null → ⊥) → listed m height at ≡ weave (lists m (height - 1) b) (map item_of b.pairs)
inner_listed m at height b l e next =
    ap (λ (z : ℕ). listed m z at) (deeper height l)
    ∙ (ap (λ (o : Option Node). weave (map (listed m (height - 1)) (kids_in o)) (pairs_in o)) e
    ∙ ap (λ (xs : List DiskLoc). weave (map (listed m (height - 1)) xs) (map item_of b.pairs)) (kids_all b next))

listed_sorted : (spec : Elements) (m : Buckets) (at : DiskLoc) (height : ℕ) → IsThereAt spec m at height → Sorted (item_lt spec) (listed m height at)
listed_sorted spec m at height t =
    let sa = t.2 in
    subst (λ (q : DiskLoc). Sorted (item_lt spec) (listed m height q)) sa.here (subst (Sorted (item_lt spec)) (listed_is m t.0 (least_at height) height t.1 sa.stands) sa.order)

pub tree_listed : (spec : Elements) (m : Buckets) (root : DiskLoc) (height : ℕ) (s : Sub) → IsTree (item_lt spec) m root height s → s.pairs ≡ listed m height root
tree_listed spec m root height s sa = listed_is m null (least_at height) height s sa.stands ∙ ap (listed m height) sa.here

counts : (m : Buckets) (h : ℕ) (b : Contents) → length (lists m h b) ≡ suc (length (map item_of b.pairs))
counts m h b = length-map (children b) (listed m h) ∙ (children_len b ∙ ap suc (sym (length-map b.pairs item_of)))

kid_listed : (m : Buckets) (h : ℕ) (b : Contents) (i : ℕ) → i ≤ length b.pairs → get_or (lists m h b) i [] ≡ listed m h (child_at b i)
kid_listed m h b i le =
    get_or-map (listed m h) (children b) i null [] (omega (arith, children_len b, le))
    ∙ ap (listed m h) (get_or_from_slice_get (children b) i (child_at b i) null (child_is b i le))

item_at : (ps : List Pair) (i : ℕ) → i < length ps → get_or (map item_of ps) i (item_of blank) ≡ item_of (pair_at ps i)
item_at ps i lt = get_or-map item_of ps i blank (item_of blank) lt

-- ---- the loop

-- what lies between in the first children and pairs
abbrev pub so_far : Elements → Option Elements → Option Elements → Buckets → ℕ → Contents → ℕ → List DiskLoc
so_far spec low high m h b i = between spec low high (front (take i (lists m h b)) (take i (map item_of b.pairs)))

pub range_starts : (spec : Elements) (low high : Option Elements) (m : Buckets) (at : DiskLoc) (height : ℕ) (b : Contents) (i : ℕ) → IsThereAt spec m at height → 0 < height → m at ≡ Some (node_of b) → IsStart spec low b.pairs i
    → so_far spec low high m (height - 1) b i ≡ []
range_starts spec low high m at height b i t l e s =
    let is = inner_listed m at height b l e (inner_next spec m at height b t l e) in
    lists_begin spec low high (lists m (height - 1) b) (map item_of b.pairs) i (counts m (height - 1) b) (omega (arith, s.inside, length-map b.pairs item_of))
    (subst (Sorted (item_lt spec)) is (listed_sorted spec m at height t)) s.before

pub range_goes : (spec : Elements) (low high : Option Elements) (m : Buckets) (h : ℕ) (b : Contents) (from to i : ℕ) → IsStart spec low b.pairs from → IsEnd spec high b.pairs from to → from ≤ i → i < to
    → so_far spec low high m h b (i + 1) ≡ so_far spec low high m h b i ++ (between spec low high (listed m h (child_at b i)) ++ (pair_at b.pairs i).rec ∷ [])
range_goes spec low high m h b from to i s e ge lt =
    let items = map item_of b.pairs in
    let within : i < length b.pairs = omega (arith, lt, e.inside) in
    let is = item_at b.pairs i within in
    let more : i + 1 ≡ suc i = omega arith in
    let inside : i < length items = omega (arith, within, length-map b.pairs item_of) in
    let here : lies spec low high (get_or items i (item_of blank)) ≡ true = subst (λ (p : Item). lies spec low high p ≡ true) (sym is) (both_lie spec low high (item_of (pair_at b.pairs i)) (s.behind i ge within) (e.before i ge lt)) in
    ap (so_far spec low high m h b) more
    ∙ (lists_more spec low high (lists m h b) items i (item_of blank) (counts m h b) inside here
    ∙ (λ j. so_far spec low high m h b i ++ (between spec low high (kid_listed m h b i (omega (arith, within)) j) ++ rec_of (is j) ∷ [])))

pub range_stops : (spec : Elements) (low high : Option Elements) (m : Buckets) (at : DiskLoc) (height : ℕ) (b : Contents) (from i : ℕ) → IsThereAt spec m at height → 0 < height → m at ≡ Some (node_of b) → IsEnd spec high b.pairs from i
    → between spec low high (listed m height at) ≡ so_far spec low high m (height - 1) b i ++ between spec low high (listed m (height - 1) (child_at b i))
range_stops spec low high m at height b from i t l e s =
    let is = inner_listed m at height b l e (inner_next spec m at height b t l e) in
    ap (between spec low high) is
    ∙ (lists_end spec low high (lists m (height - 1) b) (map item_of b.pairs) i (counts m (height - 1) b) (omega (arith, s.inside, length-map b.pairs item_of))
    (subst (Sorted (item_lt spec)) is (listed_sorted spec m at height t)) s.behind
    ∙ ap (λ (xs : List Item). so_far spec low high m (height - 1) b i ++ between spec low high xs) (kid_listed m (height - 1) b i s.inside))

-- ---- a leaf

run_all : (A : Item → Type 0) (ps : List Pair) (i k : ℕ) → ((j : ℕ) → i ≤ j → j < i + k → A (item_of (pair_at ps j))) → i + k ≤ length ps → AllByRecursion A (take k (drop i (map item_of ps)))
run_all A ps zero k f le = taken A ps k (λ j lt. f j (omega arith) (omega (arith, lt))) (omega (arith, le))
run_all A [] (suc i) k f le = absurd (omega (arith, le))
run_all A (p ∷ ps) (suc i) k f le = run_all A ps i k (λ j a c. f (suc j) (omega (arith, a)) (omega (arith, c))) (omega (arith, le))

pub range_in_leaf : (spec : Elements) (low high : Option Elements) (m : Buckets) (at : DiskLoc) (height : ℕ) (b : Contents) (from to : ℕ) → height ≡ 0 → m at ≡ Some (node_of b) → IsStart spec low b.pairs from → IsEnd spec high b.pairs from to
    → between spec low high (listed m height at) ≡ map rec_of (take (to - from) (drop from (map item_of b.pairs)))
range_in_leaf spec low high m at height b from to none e s z =
    let items = map item_of b.pairs in
    let k = to - from in
    let there : from + k ≡ to = omega (arith, z.order) in
    ap (between spec low high) (leaf_listed m at height b none e)
    ∙ run_is spec low high items from k s.before
    (run_all (λ p. lies spec low high p ≡ true) b.pairs from k
    (λ j a c. both_lie spec low high (item_of (pair_at b.pairs j)) (s.behind j a (omega (arith, c, there, z.inside))) (z.before j a (omega (arith, c, there)))) (omega (arith, there, z.inside)))
    (subst (AllByRecursion (λ p. stays spec high p ≡ false)) (sym (drop-drop k from items ∙ ap (λ n. drop n items) there)) z.behind)

-- one more of the run
pub run_more : (ps : List Pair) (from i : ℕ) → from ≤ i → i < length ps
    → map rec_of (take (i + 1 - from) (drop from (map item_of ps))) ≡ map rec_of (take (i - from) (drop from (map item_of ps))) ++ (pair_at ps i).rec ∷ []
run_more ps from i ge lt =
    let k = i - from in
    let there : i ≡ from + k = omega (arith, ge) in
    let more : i + 1 - from ≡ suc k = omega (arith, ge) in
    ap (λ n. map rec_of (take n (drop from (map item_of ps)))) more
    ∙ (by ps from k (omega (arith, there, lt)) ∙ ap (λ n. map rec_of (take k (drop from (map item_of ps))) ++ (pair_at ps n).rec ∷ []) (sym there))
  where
    first : (ps : List Pair) (k : ℕ) → k < length ps → map rec_of (take (suc k) (map item_of ps)) ≡ map rec_of (take k (map item_of ps)) ++ (pair_at ps k).rec ∷ []
    first [] k lt = absurd (omega (arith, lt))
    first (p ∷ ps) zero lt = refl
    first (p ∷ ps) (suc k) lt = ap (λ xs. p.rec ∷ xs) (first ps k (omega (arith, lt)))

    by : (ps : List Pair) (from k : ℕ) → from + k < length ps → map rec_of (take (suc k) (drop from (map item_of ps))) ≡ map rec_of (take k (drop from (map item_of ps))) ++ (pair_at ps (from + k)).rec ∷ []
    by ps zero k lt = let none : 0 + k ≡ k = omega arith in subst (λ (n : ℕ). map rec_of (take (suc k) (map item_of ps)) ≡ map rec_of (take k (map item_of ps)) ++ (pair_at ps n).rec ∷ []) (sym none) (first ps k (omega (arith, lt)))
    by [] (suc from) k lt = absurd (omega (arith, lt))
    by (p ∷ ps) (suc from) k lt = let more : suc from + k ≡ suc (from + k) = omega arith in subst (λ (n : ℕ). map rec_of (take (suc k) (drop from (map item_of ps))) ≡ map rec_of (take k (drop from (map item_of ps))) ++ (pair_at (p ∷ ps) n).rec ∷ []) (sym more) (by ps from k (omega (arith, lt)))

-- ---- lists that grow

pub grown : (a b c d x k r y : List DiskLoc) → b ≡ a ++ x → c ≡ b ++ k → d ≡ c ++ r → y ≡ x ++ (k ++ r) → d ≡ a ++ y
grown a b c d x k r y one two three is =
    three
    ∙ (ap (λ zs. zs ++ r) (two ∙ ap (λ zs. zs ++ k) one)
    ∙ (ap (λ zs. zs ++ r) (append_assoc a x k)
    ∙ (append_assoc a (x ++ k) r
    ∙ (ap (λ zs. a ++ zs) (append_assoc x k r) ∙ ap (λ zs. a ++ zs) (sym is)))))

pub grown_once : (a b c x k y : List DiskLoc) → b ≡ a ++ x → c ≡ b ++ k → y ≡ x ++ k → c ≡ a ++ y
grown_once a b c x k y one two is = two ∙ (ap (λ zs. zs ++ k) one ∙ (append_assoc a x k ∙ ap (λ zs. a ++ zs) (sym is)))

-- ---- the bounds

not_below : (spec key : Elements) (p : Item) → IsNotBelow spec key p → reaches spec (Some key) p ≡ true
not_below spec key p f = by (key_compare spec (document_in p.key) key) refl
  where
    by : (o : Ordering) → key_compare spec (document_in p.key) key ≡ o → not (is_lt o) ≡ true
    by Less e = absurd (f e)
    by Equal e = refl
    by Greater e = refl

all_below : (spec key : Elements) (xs : List Item) → AllByRecursion (IsBelow spec key) xs → AllByRecursion (λ p. reaches spec (Some key) p ≡ false) xs
all_below spec key [] h = tt
all_below spec key (x ∷ xs) h = (ap (λ (o : Ordering). not (is_lt o)) h.0, all_below spec key xs h.1)

dropped : (A : Item → Type 0) (ps : List Pair) (i : ℕ) → AllByRecursion A (drop i (map item_of ps)) → (j : ℕ) → i ≤ j → j < length ps → A (item_of (pair_at ps j))
dropped A [] i h j le lt = absurd (omega (arith, lt))
dropped A (p ∷ ps) zero h zero le lt = h.0
dropped A (p ∷ ps) zero h (suc j) le lt = dropped A ps zero h.1 j (omega arith) (omega (arith, lt))
dropped A (p ∷ ps) (suc i) h zero le lt = absurd (omega (arith, le))
dropped A (p ∷ ps) (suc i) h (suc j) le lt = dropped A ps i h j (omega (arith, le)) (omega (arith, lt))

pub starts_at : (spec key : Elements) (ps : List Pair) (i : ℕ) → i ≤ length ps → IsKeyPlace spec key (map item_of ps) i → IsStart spec (Some key) ps i
starts_at spec key ps i le k = record {
  inside = le;
  before = all_below spec key (take i (map item_of ps)) k.below;
  behind = λ j a c. not_below spec key (item_of (pair_at ps j)) (dropped (IsNotBelow spec key) ps i k.above j a c);
}

pub starts_open : (spec : Elements) (ps : List Pair) → IsStart spec None ps 0
starts_open spec ps = record { inside = omega arith; before = tt; behind = λ j a c. refl }

pub ends_open : (spec : Elements) (ps : List Pair) (from i : ℕ) → from ≤ length ps → i ≡ length ps → IsEnd spec None ps from i
ends_open spec ps from i le e = record {
  order = omega (arith, le, e);
  inside = omega (arith, e);
  before = λ j a c. refl;
  behind = subst (λ (n : ℕ). AllByRecursion (λ p. stays spec None p ≡ false) (drop n (map item_of ps))) (sym e) (none ps);
}
  where
    none : (ps : List Pair) → AllByRecursion (λ p. stays spec None p ≡ false) (drop (length ps) (map item_of ps))
    none [] = tt
    none (p ∷ ps) = none ps

-- what stands before a key that isn't greater isn't greater, and what stands behind a greater one is
pub not_greater_to : (spec key : Elements) (ps : List Pair) → Sorted (item_lt spec) (map item_of ps) → (i j : ℕ) → i ≤ j → j < length ps → stays spec (Some key) (item_of (pair_at ps j)) ≡ true → stays spec (Some key) (item_of (pair_at ps i)) ≡ true
not_greater_to spec key [] s i j le lt e = absurd (omega (arith, lt))
not_greater_to spec key (p ∷ ps) s zero zero le lt e = e
not_greater_to spec key (p ∷ ps) s zero (suc j) le lt e = by (stays spec (Some key) (item_of p)) refl
  where
    by : (t : Bool) → stays spec (Some key) (item_of p) ≡ t → t ≡ true
    by true f = refl
    by false f = absurd (let two = greater_too spec key (item_of p) (item_of (pair_at ps j)) (all_at (λ y. item_lt spec (item_of p) y ≡ true) ps j s.0 (omega (arith, lt))) f in cc)
not_greater_to spec key (p ∷ ps) s (suc i) zero le lt e = absurd (omega (arith, le))
not_greater_to spec key (p ∷ ps) s (suc i) (suc j) le lt e = not_greater_to spec key ps s.1 i j (omega (arith, le)) (omega (arith, lt)) e

pub greater_from : (spec key : Elements) (ps : List Pair) → Sorted (item_lt spec) (map item_of ps) → (i j : ℕ) → i ≤ j → j < length ps → stays spec (Some key) (item_of (pair_at ps i)) ≡ false → stays spec (Some key) (item_of (pair_at ps j)) ≡ false
greater_from spec key ps s i j le lt e = by (stays spec (Some key) (item_of (pair_at ps j))) refl
  where
    by : (t : Bool) → stays spec (Some key) (item_of (pair_at ps j)) ≡ t → t ≡ false
    by true f = absurd (let two = not_greater_to spec key ps s i j le lt f in cc)
    by false f = refl

pub ends_at : (spec key : Elements) (ps : List Pair) (from i : ℕ) → from ≤ i → i ≤ length ps → ((j : ℕ) → from ≤ j → j < i → stays spec (Some key) (item_of (pair_at ps j)) ≡ true) → ((j : ℕ) → i ≤ j → j < length ps → stays spec (Some key) (item_of (pair_at ps j)) ≡ false)
    → IsEnd spec (Some key) ps from i
ends_at spec key ps from i ge le f g = record {
  order = ge;
  inside = le;
  before = f;
  behind = left_over (λ p. stays spec (Some key) p ≡ false) ps i g;
}
