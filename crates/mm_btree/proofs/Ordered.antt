-- The order of pairs is total; a bucket of a tree in order has its pairs in order, and what a search answers is where a pair belongs.
use Rattle.std.proofs.Common.{◌≡◌, ℕ, zero, suc, ◌<◌, ◌≤◌, Bool, true, false, List, [], ◌∷◌, length, map, take, drop, refl, sym, ap, ◌∙◌, subst, add-one, arith}
use Rattle.std.specs.Prelude.{slice_index_or}
use Rattle.std.specs.List.{AllByRecursion}
use Rattle.std.specs.Cmp.{IsTotalOrder}
use Rattle.std.specs.declared.cmp.Ordering.{Ordering}
use Rattle.std.specs.declared.cmp.Ordering.TheVariants.{Less, Equal, Greater}
use Rattle.std.specs.Ordering.{is_lt, ordering_reverse}
use Rattle.std.proofs.lemmas.Cmp.{on_total}
use Rattle.std.proofs.lemmas.List.{length-map}
use Rattle.mm_bson.specs.Tree.{Elements}
use Rattle.mm_bson.specs.Walk.{document_in}
use Rattle.mm_bucket.specs.Pairs.{Pair, pair_at}
use Rattle.mm_bucket.specs.Order.{compare_pair, pair_compare, AreInOrder, Belongs}
use Rattle.mm_bucket.proofs.Ordering.{ranked_total}
use Rattle.mm_btree.specs.Nodes.{Item, item_of}
use Rattle.mm_btree.specs.Lists.{back, weave, Sorted, BeginsAbove, Chains, Told}
use Rattle.mm_btree.specs.Changes.{IsPlace}
use Rattle.mm_btree.specs.Order.{item_compare, item_lt, IsLacking}
use Rattle.mm_btree.proofs.ListLaws.{all-right, sorted-right}

pub item_total : (spec : Elements) → IsTotalOrder (item_compare spec)
item_total spec = on_total (λ (p : Item). (document_in p.key, p.rec)) (ranked_total spec)

less_is : (o : Ordering) → is_lt o ≡ true → o ≡ Less
less_is Less e = refl
less_is Equal e = absurd cc
less_is Greater e = absurd cc

pub item_chains : (spec : Elements) → Chains (item_lt spec)
item_chains spec x y z e f = ap is_lt ((item_total spec).trans x y z (less_is (item_compare spec x y) e) (less_is (item_compare spec y z) f))

pub told : (spec : Elements) (x : Item) (ys : List Item) → IsLacking spec x ys → AllByRecursion (Told (item_lt spec) x) ys
told spec x [] h = tt
told spec x (y ∷ ys) h = (one (item_compare spec y x) (item_compare spec x y) ((item_total spec).antisymm x y) h.0, told spec x ys h.1)
  where
    one : (o p : Ordering) → p ≡ ordering_reverse o → (o ≡ Equal → ⊥) → is_lt p ≡ false → is_lt o ≡ true
    one Less p e f g = refl
    one Equal p e f g = absurd (f refl)
    one Greater p e f g = sym (sym (ap is_lt e) ∙ g)

-- ---- where a pair belongs

not_less : (o p : Ordering) → p ≡ ordering_reverse o → o ≡ Less → is_lt p ≡ false
not_less Less p e f = ap is_lt e
not_less Equal p e f = absurd cc
not_less Greater p e f = absurd cc

less : (o p : Ordering) → p ≡ ordering_reverse o → o ≡ Greater → is_lt p ≡ true
less Less p e f = absurd cc
less Equal p e f = absurd cc
less Greater p e f = ap is_lt e

before : (spec : Elements) (ps : List Pair) (x : Item) (i : ℕ) → ((j : ℕ) → j < i → compare_pair spec (pair_at ps j) (document_in x.key) x.rec ≡ Less) → i ≤ length ps
    → AllByRecursion (λ p. item_lt spec x p ≡ false) (take i (map item_of ps))
before spec [] x zero f le = tt
before spec [] x (suc i) f le = absurd (omega (arith, le))
before spec (p ∷ ps) x zero f le = tt
before spec (p ∷ ps) x (suc i) f le = (
  not_less (item_compare spec (item_of p) x) (item_compare spec x (item_of p)) ((item_total spec).antisymm x (item_of p)) (f 0 (omega arith)),
  before spec ps x i (λ j lt. f (suc j) (omega (arith, lt))) (omega (arith, le)),
)

behind : (spec : Elements) (ps : List Pair) (x : Item) (i : ℕ) → ((j : ℕ) → i ≤ j → j < length ps → compare_pair spec (pair_at ps j) (document_in x.key) x.rec ≡ Greater)
    → BeginsAbove (item_lt spec) x (drop i (map item_of ps))
behind spec [] x zero f = tt
behind spec [] x (suc i) f = tt
behind spec (p ∷ ps) x zero f = less (item_compare spec (item_of p) x) (item_compare spec x (item_of p)) ((item_total spec).antisymm x (item_of p)) (f 0 (omega arith) (omega arith))
behind spec (p ∷ ps) x (suc i) f = behind spec ps x i (λ j le lt. f (suc j) (omega (arith, le)) (omega (arith, lt)))

pub belongs_is : (spec : Elements) (ps : List Pair) (x : Item) (i : ℕ) → Belongs spec ps (document_in x.key) x.rec i → IsPlace (item_lt spec) (map item_of ps) x i
belongs_is spec ps x i b = record {
  inside = omega (arith, b.inside, length-map ps item_of);
  before = before spec ps x i b.below b.inside;
  behind = behind spec ps x i b.above;
}

-- a pair that compares equal isn't lacking
pub not_lacking : (spec : Elements) (ps : List Pair) (x : Item) (i : ℕ) → IsLacking spec x (map item_of ps) → i < length ps → compare_pair spec (pair_at ps i) (document_in x.key) x.rec ≡ Equal → ⊥
not_lacking spec [] x i h lt e = omega (arith, lt)
not_lacking spec (p ∷ ps) x zero h lt e = h.0 e
not_lacking spec (p ∷ ps) x (suc i) h lt e = not_lacking spec ps x i h.1 (omega (arith, lt)) e

-- ---- a bucket in order

not_above : (o p : Ordering) → p ≡ ordering_reverse o → is_lt o ≡ true → is_lt p ≡ false
not_above Less p e f = ap is_lt e
not_above Equal p e f = absurd cc
not_above Greater p e f = absurd cc

rises : (spec : Elements) (ps : List Pair) → Sorted (item_lt spec) (map item_of ps) → (k : ℕ) (d : Pair) → suc k < length ps → is_lt (pair_compare spec (slice_index_or ps (suc k) d) (slice_index_or ps k d)) ≡ false
rises spec [] s k d lt = absurd (omega (arith, lt))
rises spec (p ∷ []) s k d lt = absurd (omega (arith, lt))
rises spec (p ∷ q ∷ ps) s zero d lt = not_above (item_compare spec (item_of p) (item_of q)) (item_compare spec (item_of q) (item_of p)) ((item_total spec).antisymm (item_of q) (item_of p)) s.0.0
rises spec (p ∷ q ∷ ps) s (suc k) d lt = rises spec (q ∷ ps) s.1 k d (omega (arith, lt))

pub in_order : (spec : Elements) (ps : List Pair) → Sorted (item_lt spec) (map item_of ps) → AreInOrder spec ps
in_order spec ps s k d le lt = subst (λ (z : ℕ). is_lt (pair_compare spec (slice_index_or ps z d) (slice_index_or ps k d)) ≡ false) (sym (add-one k)) (rises spec ps s k d (omega (arith, lt)))

-- ---- the pairs of a bucket among those of its subtree

pub all_back : {P : Type 0} (A : P → Type 0) (ls : List (List P)) (ps : List P) → AllByRecursion A (back ls ps) → AllByRecursion A ps
all_back A [] ps h = h
all_back A (l ∷ ls) [] h = tt
all_back A (l ∷ ls) (p ∷ ps) h = (h.0, all_back A ls ps (all-right A l (back ls ps) h.1))

pub all_weave : {P : Type 0} (A : P → Type 0) (ls : List (List P)) (ps : List P) → AllByRecursion A (weave ls ps) → AllByRecursion A ps
all_weave A [] ps h = h
all_weave A (l ∷ ls) ps h = all_back A ls ps (all-right A l (back ls ps) h)

sorted_back : {P : Type 0} (lt : P → P → Bool) (ls : List (List P)) (ps : List P) → Sorted lt (back ls ps) → Sorted lt ps
sorted_back lt [] ps h = h
sorted_back lt (l ∷ ls) [] h = tt
sorted_back lt (l ∷ ls) (p ∷ ps) h = (all_back (λ y. lt p y ≡ true) ls ps (all-right (λ y. lt p y ≡ true) l (back ls ps) h.0), sorted_back lt ls ps (sorted-right lt l (back ls ps) h.1))

pub sorted_weave : {P : Type 0} (lt : P → P → Bool) (ls : List (List P)) (ps : List P) → Sorted lt (weave ls ps) → Sorted lt ps
sorted_weave lt [] ps h = h
sorted_weave lt (l ∷ ls) ps h = sorted_back lt ls ps (sorted-right lt l (back ls ps) h)
