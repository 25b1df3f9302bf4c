-- Pairs that come, that go, and their order.
use Rattle.std.proofs.Common.{◌≡◌, Bool, true, false, List, [], ◌∷◌, ◌++◌, cond, refl, sym, ◌∙◌, ap}
use Rattle.std.specs.Prelude.{not}
use Rattle.std.specs.declared.cmp.Ordering.{Ordering}
use Rattle.std.specs.declared.cmp.Ordering.TheVariants.{Less, Equal, Greater}
use Rattle.std.specs.Ordering.{is_lt, is_eq, ordering_reverse}
use Rattle.std.specs.List.{AllByRecursion}
use Rattle.std.proofs.lemmas.Bool.{or_parts, false_from_ne_true, false≢true}
use Rattle.mm_bson.specs.Tree.{Elements}
use Rattle.mm_links.specs.Links.{same, has, once}
use Rattle.mm_links.proofs.LinkLaws.{both, not_true}
use Rattle.mm_extents.specs.Changes.{IsLow}
use Rattle.mm_btree.specs.Nodes.{Item}
use Rattle.mm_btree.specs.Lists.{ins, Chains}
use Rattle.mm_btree.specs.Order.{item_compare, item_lt}
use Rattle.mm_btree.specs.Removal.{without}
use Rattle.mm_btree.proofs.ListLaws.{all-right}
use Rattle.mm_btree.proofs.Ordered.{item_total, item_chains, told}
use Rattle.mm_btree.proofs.Rooting.{sorted_ins}
use Rattle.mm_btree.proofs.Takings.{without_lacking}
use Rattle.mm_standing.specs.Documents.{Laid, places}
use Rattle.mm_standing.specs.Indexes.{item_of, items}
use Rattle.mm_standing.specs.Items.{AreLow, ItemsCome, ItemsGo, ItemsAreSorted, ItemsLack}
use Rattle.mm_standing.proofs.ItemPlaces.{differ}

-- ---- two that are put in

two_told : {A : Type 0} (a b : Bool) (x y : A) → b ≡ not a → cond a x y ≡ cond b y x
two_told true true x y e = absurd cc
two_told true false x y e = refl
two_told false true x y e = refl
two_told false false x y e = absurd cc

-- in either order, where one of the two is less
swapped : {P : Type 0} (lt : P → P → Bool) → Chains lt → (x y : P) → lt y x ≡ not (lt x y) → (zs : List P) → ins lt x (ins lt y zs) ≡ ins lt y (ins lt x zs)
swapped lt ch x y one [] = two_told (lt x y) (lt y x) (x ∷ y ∷ []) (y ∷ x ∷ []) one
swapped {P} lt ch x y one (z ∷ zs) = by (lt x z) (lt y z) refl refl (swapped lt ch x y one zs)
  where
    not_both : (u v : P) → lt u z ≡ true → lt v z ≡ false → lt v u ≡ false
    not_both u v e f = false_from_ne_true (lt v u) (λ g. false≢true (sym f ∙ ch v u z g e))

    turned : (a b : Bool) → b ≡ not a → b ≡ false → a ≡ true
    turned true b e f = refl
    turned false b e f = absurd (false≢true (sym f ∙ e))

    by : (a b : Bool) → lt x z ≡ a → lt y z ≡ b → ins lt x (ins lt y zs) ≡ ins lt y (ins lt x zs) → ins lt x (cond b (y ∷ z ∷ zs) (z ∷ ins lt y zs)) ≡ ins lt y (cond a (x ∷ z ∷ zs) (z ∷ ins lt x zs))
    by true true e f k = rw (e, f) (two_told (lt x y) (lt y x) (x ∷ y ∷ z ∷ zs) (y ∷ x ∷ z ∷ zs) one)
    by true false e f k = rw (e, f, not_both x y e f) refl
    by false true e f k = rw (e, f, not_both y x f e) refl
    by false false e f k = rw (e, f) (ap (λ ws. z ∷ ws) k)

-- ---- one of two pairs that differ is less

one_less : (o p : Ordering) → p ≡ ordering_reverse o → (o ≡ Equal → ⊥) → is_lt p ≡ not (is_lt o)
one_less Less p e f = ap is_lt e
one_less Equal p e f = absurd (f refl)
one_less Greater p e f = ap is_lt e

pair_less : (spec : Elements) (x y : Item) → (item_compare spec x y ≡ Equal → ⊥) → item_lt spec y x ≡ not (item_lt spec x y)
pair_less spec x y f = one_less (item_compare spec x y) (item_compare spec y x) ((item_total spec).antisymm y x) f

own_equal : (spec : Elements) (x : Item) → item_compare spec x x ≡ Equal
own_equal spec x = by (item_compare spec x x) ((item_total spec).antisymm x x)
  where
    by : (o : Ordering) → o ≡ ordering_reverse o → o ≡ Equal
    by Less e = absurd cc
    by Equal e = refl
    by Greater e = absurd cc

-- ---- a document more

low_mid : (ls ms : List Laid) (l : Laid) → AreLow (ls ++ l ∷ ms) → IsLow l.at
low_mid ls ms l h = (all-right (λ k. IsLow k.at) ls (l ∷ ms) h).0

pub items_come : ItemsCome
items_come spec [] ms l low out = refl
items_come spec (k ∷ ls) ms l low out =
    let o = or_parts (same k.at l.at) (has (places (ls ++ ms)) l.at) out in
    let apart = differ spec k l low.0 (low_mid ls ms l low.1) o.0 in
    ap (ins (item_lt spec) (item_of spec k)) (items_come spec ls ms l low.1 o.1)
    ∙ swapped (item_lt spec) (item_chains spec) (item_of spec k) (item_of spec l) (pair_less spec (item_of spec k) (item_of spec l) apart) (items spec (ls ++ ms))

-- ---- what isn't there

ins_all : {P : Type 0} (lt : P → P → Bool) (A : P → Type 0) (x : P) (xs : List P) → A x → AllByRecursion A xs → AllByRecursion A (ins lt x xs)
ins_all lt A x [] a h = (a, tt)
ins_all lt A x (y ∷ ys) a h = by (lt x y) (ins_all lt A x ys a h.1)
  where
    by : (b : Bool) → AllByRecursion A (ins lt x ys) → AllByRecursion A (cond b (x ∷ y ∷ ys) (y ∷ ins lt x ys))
    by true k = (a, h)
    by false k = (h.0, k)

pub items_lack : ItemsLack
items_lack spec [] l here low out = tt
items_lack spec (k ∷ ls) l here low out =
    let o = or_parts (same k.at l.at) (has (places ls) l.at) out in
    ins_all (item_lt spec) (λ y. item_compare spec y (item_of spec l) ≡ Equal → ⊥) (item_of spec k) (items spec ls) (differ spec k l low.0 here o.0) (items_lack spec ls l here low.1 o.1)

pub items_are_sorted : ItemsAreSorted
items_are_sorted spec [] low h = tt
items_are_sorted spec (k ∷ ls) low h =
    let t = both (not (has (places ls) k.at)) (once (places ls)) h in
    sorted_ins (item_lt spec) (item_chains spec) (item_of spec k) (items spec ls)
    (told spec (item_of spec k) (items spec ls) (items_lack spec ls k low.0 low.1 (not_true (has (places ls) k.at) t.0)))
    (items_are_sorted spec ls low.1 t.1)

-- ---- a document less

without_ins : (spec : Elements) (x : Item) (ps : List Item) → without spec x (ins (item_lt spec) x ps) ≡ without spec x ps
without_ins spec x [] = rw (own_equal spec x) refl
without_ins spec x (p ∷ ps) = by (item_lt spec x p) (without_ins spec x ps)
  where
    by : (b : Bool) → without spec x (ins (item_lt spec) x ps) ≡ without spec x ps → without spec x (cond b (x ∷ p ∷ ps) (p ∷ ins (item_lt spec) x ps)) ≡ without spec x (p ∷ ps)
    by true k = rw (own_equal spec x) refl
    by false k = ap (λ ws. cond (not (is_eq (item_compare spec p x))) (p ∷ ws) ws) k

low_others : (ls ms : List Laid) (l : Laid) → AreLow (ls ++ l ∷ ms) → AreLow (ls ++ ms)
low_others [] ms l h = h.1
low_others (k ∷ ls) ms l h = (h.0, low_others ls ms l h.1)

pub items_go : ItemsGo
items_go spec ls ms l low out =
    ap (without spec (item_of spec l)) (items_come spec ls ms l low out)
    ∙ without_ins spec (item_of spec l) (items spec (ls ++ ms))
    ∙ without_lacking spec (item_of spec l) (items spec (ls ++ ms)) (items_lack spec (ls ++ ms) l (low_mid ls ms l low) (low_others ls ms l low) out)
