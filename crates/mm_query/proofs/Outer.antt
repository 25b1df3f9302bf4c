-- How values stand, seen from a side, and the one that comes first.
use Rattle.std.proofs.Common.{◌≡◌, ◌≢◌, Option, Some, None, refl, sym, ap, ◌∙◌}
use Rattle.std.specs.declared.cmp.Ordering.{Ordering}
use Rattle.std.specs.declared.cmp.Ordering.TheVariants.{Less, Equal, Greater}
use Rattle.std.specs.Ordering.{ordering_reverse, min_by_ordering}
use Rattle.mm_bson.specs.Tree.{Tree}
use Rattle.mm_bson.specs.Order.{compare}
use Rattle.mm_bson.proofs.Orders.{compare_total}
use Rattle.mm_query.specs.declared.side.Side.{Side}
use Rattle.mm_query.specs.declared.side.Side.TheVariants.{Low, High}
use Rattle.mm_query.specs.Bounds.{from_side, outer, outer_of}

-- ---- orders

not_after_itself : (t : Tree) → compare t t ≢ Greater
not_after_itself t e =
    let turned_round : compare t t ≡ Less = compare_total.antisymm t t ∙ ap ordering_reverse e in
    cc

pub in_order : (t u w : Tree) → compare t u ≢ Greater → compare u w ≢ Greater → compare t w ≢ Greater
in_order t u w = by (compare t u) (compare u w) refl refl
  where
    by : (o p : Ordering) → compare t u ≡ o → compare u w ≡ p → o ≢ Greater → p ≢ Greater → compare t w ≢ Greater
    by Greater p is next h k e = h refl
    by o Greater is next h k e = k refl
    by Equal p is next h k e = k (sym next ∙ sym (compare_total.congr t u w is) ∙ e)
    by Less Less is next h k e =
        let less : compare t w ≡ Less = compare_total.trans t u w is next in
        cc
    by Less Equal is next h k e =
        let less : compare w t ≡ Greater = sym (compare_total.congr u w t next) ∙ compare_total.antisymm u t ∙ ap ordering_reverse is in
        let back : compare t w ≡ Less = compare_total.antisymm t w ∙ ap ordering_reverse less in
        cc

greater_on : (t u w : Tree) → compare t u ≡ Greater → compare u w ≡ Greater → compare t w ≡ Greater
greater_on t u w is next =
    let first : compare u t ≡ Less = compare_total.antisymm u t ∙ ap ordering_reverse is in
    let second : compare w u ≡ Less = compare_total.antisymm w u ∙ ap ordering_reverse next in
    compare_total.antisymm t w ∙ ap ordering_reverse (compare_total.trans w u t second first)

pub behind : (side : Side) (t u w : Tree) → from_side side t u ≢ Greater → from_side side u w ≢ Greater → from_side side t w ≢ Greater
behind Low t u w h k = in_order t u w h k
behind High t u w h k = in_order w u t k h

ahead : (side : Side) (t u w : Tree) → from_side side t u ≡ Greater → from_side side u w ≡ Greater → from_side side t w ≡ Greater
ahead Low t u w h k = greater_on t u w h k
ahead High t u w h k = greater_on w u t k h

pub equal_pair : (side : Side) (t w : Tree) → compare w t ≡ Equal → from_side side t w ≢ Greater
equal_pair Low t w same e =
    let back : compare t w ≡ Equal = compare_total.antisymm t w ∙ ap ordering_reverse same in
    cc
equal_pair High t w same e = cc

pub itself_behind : (side : Side) (t : Tree) → from_side side t t ≢ Greater
itself_behind Low t = not_after_itself t
itself_behind High t = not_after_itself t

turned_back : (side : Side) (t u : Tree) → from_side side t u ≡ Greater → from_side side u t ≢ Greater
turned_back Low t u is e =
    let less : compare u t ≡ Less = compare_total.antisymm u t ∙ ap ordering_reverse is in
    cc
turned_back High t u is e =
    let less : compare t u ≡ Less = compare_total.antisymm t u ∙ ap ordering_reverse is in
    cc

-- ---- the first of two

pub outer_first : (side : Side) (t u : Tree) → (from_side side (outer side t u) t ≢ Greater) × (from_side side (outer side t u) u ≢ Greater)
outer_first side t u = by (from_side side t u) refl
  where
    by : (o : Ordering) → from_side side t u ≡ o → (from_side side (min_by_ordering o t u) t ≢ Greater) × (from_side side (min_by_ordering o t u) u ≢ Greater)
    by Less is = (itself_behind side t, λ e. cc)
    by Equal is = (itself_behind side t, λ e. cc)
    by Greater is = (turned_back side t u is, itself_behind side u)

left : (o : Ordering) (t u : Tree) → o ≢ Greater → min_by_ordering o t u ≡ t
left Less t u h = refl
left Equal t u h = refl
left Greater t u h = absurd (h refl)

outer_assoc : (side : Side) (t u w : Tree) → outer side (outer side t u) w ≡ outer side t (outer side u w)
outer_assoc side t u w = by (from_side side t u) (from_side side u w) refl refl
  where
    near : from_side side t u ≢ Greater → from_side side u w ≢ Greater → outer side t w ≡ outer side t u
    near h k = left (from_side side t w) t w (behind side t u w h k) ∙ sym (left (from_side side t u) t u h)

    far : from_side side t u ≡ Greater → from_side side u w ≡ Greater → w ≡ outer side t w
    far h k = ap (λ (o : Ordering). min_by_ordering o t w) (sym (ahead side t u w h k))

    by : (o p : Ordering) → from_side side t u ≡ o → from_side side u w ≡ p → outer side (min_by_ordering o t u) w ≡ outer side t (min_by_ordering p u w)
    by Greater Greater is next = ap (λ (p : Ordering). min_by_ordering p u w) next ∙ far is next
    by Greater Less is next = ap (λ (p : Ordering). min_by_ordering p u w) next ∙ ap (λ (o : Ordering). min_by_ordering o t u) (sym is)
    by Greater Equal is next = ap (λ (p : Ordering). min_by_ordering p u w) next ∙ ap (λ (o : Ordering). min_by_ordering o t u) (sym is)
    by Less Greater is next = refl
    by Equal Greater is next = refl
    by Less Less is next = near (λ e. cc) (λ e. cc)
    by Less Equal is next = near (λ e. cc) (λ e. cc)
    by Equal Less is next = near (λ e. cc) (λ e. cc)
    by Equal Equal is next = near (λ e. cc) (λ e. cc)

outer_of_assoc : (side : Side) (a b c : Option Tree) → outer_of side (outer_of side a b) c ≡ outer_of side a (outer_of side b c)
outer_of_assoc side None b c = refl
outer_of_assoc side (Some t) None c = refl
outer_of_assoc side (Some t) (Some u) None = refl
outer_of_assoc side (Some t) (Some u) (Some w) = ap Some (outer_assoc side t u w)

-- ---- what is gathered from the left is what stands there from the right

pub gathered : (side : Side) (best more later rest next all : Option Tree) → next ≡ outer_of side best more → rest ≡ outer_of side more later → outer_of side best rest ≡ all → outer_of side next later ≡ all
gathered side best more later rest next all is split so_far = ap (λ o. outer_of side o later) is ∙ outer_of_assoc side best more later ∙ ap (outer_of side best) (sym split) ∙ so_far

pub gathered_all : (side : Side) (best rest all : Option Tree) → rest ≡ None → outer_of side best rest ≡ all → best ≡ all
gathered_all side best rest all none so_far = alone best ∙ ap (outer_of side best) (sym none) ∙ so_far
  where
    alone : (o : Option Tree) → o ≡ outer_of side o None
    alone None = refl
    alone (Some t) = refl

-- what two values have, the first of them has
pub outer_of_keeps : (P : Tree → Type 0) (side : Side) (a b : Option Tree) → ((t : Tree) → a ≡ Some t → P t) → ((t : Tree) → b ≡ Some t → P t) → (t : Tree) → outer_of side a b ≡ Some t → P t
outer_of_keeps P side None b h k = k
outer_of_keeps P side (Some u) None h k = h
outer_of_keeps P side (Some u) (Some w) h k = by (from_side side u w)
  where
    by : (o : Ordering) → (t : Tree) → Some (min_by_ordering o u w) ≡ Some t → P t
    by Less = h
    by Equal = h
    by Greater = k
