-- One pair is taken out of a list in order, or gives way to another.
use Rattle.std.proofs.Common.{◌≡◌, Bool, true, false, not, List, [], ◌∷◌, ◌++◌, cond, Option, Some, None, refl, sym, ap, ◌∙◌, subst, append_assoc}
use Rattle.std.specs.List.{AllByRecursion}
use Rattle.std.specs.declared.cmp.Ordering.{Ordering}
use Rattle.std.specs.declared.cmp.Ordering.TheVariants.{Less, Equal, Greater}
use Rattle.std.specs.Ordering.{is_lt, is_eq, ordering_reverse}
use Rattle.std.proofs.lemmas.List.{map-append}
use Rattle.std.proofs.lemmas.List.Elements.{filter-append}
use Rattle.mm_bson.specs.Tree.{Elements}
use Rattle.mm_btree.specs.Nodes.{Item}
use Rattle.mm_btree.specs.Lists.{Sorted}
use Rattle.mm_btree.specs.Order.{item_compare, item_lt, IsLacking}
use Rattle.mm_btree.specs.Removal.{without, exchanged, IsTakenOut}
use Rattle.mm_btree.proofs.ListLaws.{all-left, all-right, all-both, sorted-right}
use Rattle.mm_btree.proofs.Ordered.{item_total}

-- ---- a pair that is less than another, or greater, isn't it

differs_below : (spec : Elements) (x y z : Item) → item_lt spec y z ≡ true → item_compare spec z x ≡ Equal → item_compare spec y x ≡ Equal → ⊥
differs_below spec x y z lt e f = by (item_compare spec y z) lt same
  where
    same : item_compare spec y z ≡ Equal
    same =
        let o = item_total spec in
        let back : item_compare spec x z ≡ Equal = o.antisymm x z ∙ ap ordering_reverse e in
        o.congr y x z f ∙ back

    by : (r : Ordering) → is_lt r ≡ true → r ≡ Equal → ⊥
    by Less a b = cc
    by Equal a b = cc
    by Greater a b = cc

differs_above : (spec : Elements) (x y z : Item) → item_lt spec z y ≡ true → item_compare spec z x ≡ Equal → item_compare spec y x ≡ Equal → ⊥
differs_above spec x y z lt e f = differs_below spec x z y lt f e

-- those before it and those behind it aren't it
lacking_before : (spec : Elements) (x z : Item) (fs bs : List Item) → Sorted (item_lt spec) (fs ++ z ∷ bs) → item_compare spec z x ≡ Equal → IsLacking spec x fs
lacking_before spec x z [] bs s e = tt
lacking_before spec x z (a ∷ fs) bs s e = (differs_below spec x a z (all-right (λ y. item_lt spec a y ≡ true) fs (z ∷ bs) s.0).0 e, lacking_before spec x z fs bs s.1 e)

above_lack : (spec : Elements) (x z : Item) (bs : List Item) → AllByRecursion (λ y. item_lt spec z y ≡ true) bs → item_compare spec z x ≡ Equal → IsLacking spec x bs
above_lack spec x z [] h e = tt
above_lack spec x z (b ∷ bs) h e = (differs_above spec x b z h.0 e, above_lack spec x z bs h.1 e)

lacking_behind : (spec : Elements) (x z : Item) (fs bs : List Item) → Sorted (item_lt spec) (fs ++ z ∷ bs) → item_compare spec z x ≡ Equal → IsLacking spec x bs
lacking_behind spec x z fs bs s e = above_lack spec x z bs (sorted-right (item_lt spec) fs (z ∷ bs) s).0 e

-- ---- what isn't there

not_equal : (o : Ordering) → (o ≡ Equal → ⊥) → is_eq o ≡ false
not_equal Less f = refl
not_equal Equal f = absurd (f refl)
not_equal Greater f = refl

pub without_lacking : (spec : Elements) (x : Item) (ps : List Item) → IsLacking spec x ps → without spec x ps ≡ ps
without_lacking spec x [] h = refl
without_lacking spec x (p ∷ ps) h = rw (not_equal (item_compare spec p x) h.0) (ap (λ ys. p ∷ ys) (without_lacking spec x ps h.1))

pub exchanged_lacking : (spec : Elements) (x y : Item) (ps : List Item) → IsLacking spec x ps → exchanged spec x y ps ≡ ps
exchanged_lacking spec x y [] h = refl
exchanged_lacking spec x y (p ∷ ps) h = rw (not_equal (item_compare spec p x) h.0) (ap (λ ys. p ∷ ys) (exchanged_lacking spec x y ps h.1))

pub exchanged_parts : (spec : Elements) (x y : Item) (fs bs : List Item) → exchanged spec x y (fs ++ bs) ≡ exchanged spec x y fs ++ exchanged spec x y bs
exchanged_parts spec x y fs bs = map-append (λ (p : Item). cond (is_eq (item_compare spec p x)) y p) fs bs

-- ---- what is

pub without_mid : (spec : Elements) (x z : Item) (fs bs : List Item) → Sorted (item_lt spec) (fs ++ z ∷ bs) → item_compare spec z x ≡ Equal → without spec x (fs ++ z ∷ bs) ≡ fs ++ bs
without_mid spec x z fs bs s e =
    filter-append (λ (p : Item). not (is_eq (item_compare spec p x))) fs (z ∷ bs)
    ∙ (ap (λ ys. ys ++ without spec x (z ∷ bs)) (without_lacking spec x fs (lacking_before spec x z fs bs s e))
    ∙ ap (λ ys. fs ++ ys) (rw e (without_lacking spec x bs (lacking_behind spec x z fs bs s e))))

pub exchanged_mid : (spec : Elements) (x y z : Item) (fs bs : List Item) → Sorted (item_lt spec) (fs ++ z ∷ bs) → item_compare spec z x ≡ Equal → exchanged spec x y (fs ++ z ∷ bs) ≡ fs ++ y ∷ bs
exchanged_mid spec x y z fs bs s e =
    exchanged_parts spec x y fs (z ∷ bs)
    ∙ (ap (λ ys. ys ++ exchanged spec x y (z ∷ bs)) (exchanged_lacking spec x y fs (lacking_before spec x z fs bs s e))
    ∙ ap (λ ys. fs ++ ys) (rw e (ap (λ ys. y ∷ ys) (exchanged_lacking spec x y bs (lacking_behind spec x z fs bs s e)))))

pub sorted_out : (lt : Item → Item → Bool) (fs bs : List Item) (z : Item) → Sorted lt (fs ++ z ∷ bs) → Sorted lt (fs ++ bs)
sorted_out lt [] bs z s = s.1
sorted_out lt (a ∷ fs) bs z s = (all-both (λ y. lt a y ≡ true) fs bs (all-left (λ y. lt a y ≡ true) fs (z ∷ bs) s.0) (all-right (λ y. lt a y ≡ true) fs (z ∷ bs) s.0).1, sorted_out lt fs bs z s.1)

-- ---- one is taken out: it was there, and what is left is in order

pub taken_present : (spec : Elements) (x : Item) (xs ys : List Item) (r : Option Item) → IsTakenOut spec x xs r ys → IsLacking spec x xs → ⊥
taken_present spec x xs ys None t h = (all-right (λ p. item_compare spec p x ≡ Equal → ⊥) t.0 (t.2 ∷ t.1) (subst (IsLacking spec x) t.3 h)).0 t.5
taken_present spec x xs ys (Some y) t h = (all-right (λ p. item_compare spec p x ≡ Equal → ⊥) t.0 (y ∷ t.2 ∷ t.1) (subst (IsLacking spec x) t.3 h)).1.0 t.5

pub taken_sorted : (spec : Elements) (x : Item) (xs ys : List Item) (r : Option Item) → IsTakenOut spec x xs r ys → Sorted (item_lt spec) xs → Sorted (item_lt spec) ys
taken_sorted spec x xs ys None t s = subst (Sorted (item_lt spec)) (sym t.4) (sorted_out (item_lt spec) t.0 t.1 t.2 (subst (Sorted (item_lt spec)) t.3 s))
taken_sorted spec x xs ys (Some y) t s = subst (Sorted (item_lt spec)) (sym t.4) (sorted_out (item_lt spec) t.0 (t.2 ∷ t.1) y (subst (Sorted (item_lt spec)) t.3 s))

pub taken_is : (spec : Elements) (x : Item) (xs ys : List Item) → IsTakenOut spec x xs None ys → Sorted (item_lt spec) xs → ys ≡ without spec x xs
taken_is spec x xs ys t s =
    t.4 ∙ sym (ap (without spec x) t.3 ∙ without_mid spec x t.2 t.0 t.1 (subst (Sorted (item_lt spec)) t.3 s) t.5)

pub stead_is : (spec : Elements) (x y : Item) (xs ys : List Item) → IsTakenOut spec x xs (Some y) ys → Sorted (item_lt spec) xs → exchanged spec x y ys ≡ without spec x xs
stead_is spec x y xs ys t s =
    let whole : xs ≡ (t.0 ++ y ∷ []) ++ t.2 ∷ t.1 = t.3 ∙ sym (append_assoc t.0 (y ∷ []) (t.2 ∷ t.1)) in
    let left : Sorted (item_lt spec) (t.0 ++ t.2 ∷ t.1) = sorted_out (item_lt spec) t.0 (t.2 ∷ t.1) y (subst (Sorted (item_lt spec)) t.3 s) in
    ap (exchanged spec x y) t.4
    ∙ (exchanged_mid spec x y t.2 t.0 t.1 left t.5
    ∙ sym (ap (without spec x) whole ∙ (without_mid spec x t.2 (t.0 ++ y ∷ []) t.1 (subst (Sorted (item_lt spec)) whole s) t.5 ∙ append_assoc t.0 (y ∷ []) t.1)))

pub stead_there : (spec : Elements) (x y : Item) (xs ys : List Item) → IsTakenOut spec x xs (Some y) ys → IsLacking spec x ys → ⊥
stead_there spec x y xs ys t h = (all-right (λ p. item_compare spec p x ≡ Equal → ⊥) t.0 (t.2 ∷ t.1) (subst (IsLacking spec x) t.4 h)).0 t.5

-- among lists before and behind
pub mid_of : (F fs rest B : List Item) → F ++ ((fs ++ rest) ++ B) ≡ (F ++ fs) ++ (rest ++ B)
mid_of F fs rest B = ap (λ ys. F ++ ys) (append_assoc fs rest B) ∙ sym (append_assoc F fs (rest ++ B))

pub taken_within : (spec : Elements) (x : Item) (F B mine left : List Item) (r : Option Item) → IsTakenOut spec x mine r left → IsTakenOut spec x (F ++ (mine ++ B)) r (F ++ (left ++ B))
taken_within spec x F B mine left None t =
    (F ++ t.0, t.1 ++ B, t.2, ap (λ ys. F ++ (ys ++ B)) t.3 ∙ mid_of F t.0 (t.2 ∷ t.1) B, ap (λ ys. F ++ (ys ++ B)) t.4 ∙ mid_of F t.0 t.1 B, t.5)
taken_within spec x F B mine left (Some y) t =
    (F ++ t.0, t.1 ++ B, t.2, ap (λ ys. F ++ (ys ++ B)) t.3 ∙ mid_of F t.0 (y ∷ t.2 ∷ t.1) B, ap (λ ys. F ++ (ys ++ B)) t.4 ∙ mid_of F t.0 (t.2 ∷ t.1) B, t.5)

without_all : (spec : Elements) (x : Item) (A : Item → Type 0) (ps : List Item) → AllByRecursion A ps → AllByRecursion A (without spec x ps)
without_all spec x A [] h = tt
without_all spec x A (p ∷ ps) h = by (is_eq (item_compare spec p x)) (without_all spec x A ps h.1)
  where
    by : (t : Bool) → AllByRecursion A (without spec x ps) → AllByRecursion A (cond (not t) (p ∷ without spec x ps) (without spec x ps))
    by true k = k
    by false k = (h.0, k)

pub without_sorted : (spec : Elements) (x : Item) (ps : List Item) → Sorted (item_lt spec) ps → Sorted (item_lt spec) (without spec x ps)
without_sorted spec x [] s = tt
without_sorted spec x (p ∷ ps) s = by (is_eq (item_compare spec p x)) (without_sorted spec x ps s.1)
  where
    by : (t : Bool) → Sorted (item_lt spec) (without spec x ps) → Sorted (item_lt spec) (cond (not t) (p ∷ without spec x ps) (without spec x ps))
    by true k = k
    by false k = (without_all spec x (λ y. item_lt spec p y ≡ true) ps s.0, k)
