-- What a condition says of a value that is no array.
use Rattle.std.proofs.Common.{◌≡◌, ◌≢◌, Bool, true, false, Option, Some, None, inl, inr, refl, sym, ap, ◌∙◌, subst}
use Rattle.std.specs.Prelude.{MatchBool, if◌then◌else◌}
use Rattle.std.specs.declared.cmp.Ordering.{Ordering}
use Rattle.std.specs.declared.cmp.Ordering.TheVariants.{Less, Equal, Greater}
use Rattle.std.specs.Ordering.{is_eq, ordering_reverse}
use Rattle.mm_bson.specs.Tree.{Tree, null, document, array, boolean, Elements, no_elements, element, Values, no_values, item}
use Rattle.mm_bson.specs.Order.{class, compare}
use Rattle.mm_bson.proofs.Orders.{compare_total}
use Rattle.mm_keys.specs.Key.{IsArray}
use Rattle.mm_query.specs.declared.operator.Operator.{Operator}
use Rattle.mm_query.specs.declared.operator.Operator.TheVariants.{Gt, Gte, Lt, Lte, In, Exists}
use Rattle.mm_query.specs.declared.side.Side.{Side}
use Rattle.mm_query.specs.declared.side.Side.TheVariants.{Low, High}
use Rattle.mm_query.specs.Form.{operator_of, has_operators}
use Rattle.mm_query.specs.Match.{SomeOf, SomeItem, ItOrItem, Equals, EqualsSome, is_so, Stands, HoldsBy, AllHold, MeetsAt}
use Rattle.mm_query.specs.Bounds.{from_side, outer, outer_of, opposite, tighter, nothing, class_end, range_limit, weak_limit, strict_limit, unless_array, outermost, in_limit, exists_limit, limit_by, limit_among, limit_in}
use Rattle.mm_query.proofs.Outer.{behind, equal_pair, itself_behind, outer_first, outer_of_keeps}
use Rattle.mm_query.proofs.ClassEnds.{end_within}

-- ---- conditions on a value that is no array

no_item : (P : Tree → Type 0) (w : Tree) → (IsArray w → ⊥) → SomeItem P w → ⊥
no_item P (array vs) flat h = flat (vs, refl)
no_item P _ flat h = h

pub itself : (P : Tree → Type 0) (w : Tree) → (IsArray w → ⊥) → ItOrItem P w → P w
itself P w flat (inl h) = h
itself P w flat (inr h) = absurd (no_item P w flat h)

no_class : (w : Tree) → (IsArray w → ⊥) → class w ≡ 5 → ⊥
no_class (array vs) flat is = flat (vs, refl)
no_class _ flat is = cc

no_equal : (w : Tree) (vs : Values) → (IsArray w → ⊥) → compare w (array vs) ≡ Equal → ⊥
no_equal (array ws) vs flat is = flat (ws, refl)
no_equal _ vs flat is = cc

gt_is : (o : Ordering) → is_so Gt o ≡ true → o ≡ Greater
gt_is Greater so = refl
gt_is _ so = cc

lt_is : (o : Ordering) → is_so Lt o ≡ true → o ≡ Less
lt_is Less so = refl
lt_is _ so = cc

gte_is : (o : Ordering) → is_so Gte o ≡ true → ordering_reverse o ≢ Greater
gte_is Less so e = cc
gte_is Equal so e = cc
gte_is Greater so e = cc

lte_is : (o : Ordering) → is_so Lte o ≡ true → o ≢ Greater
lte_is Less so e = cc
lte_is Equal so e = cc
lte_is Greater so e = cc

is_equal : (o : Ordering) → is_eq o ≡ true → o ≡ Equal
is_equal Equal so = refl
is_equal _ so = cc

-- a limit, where it is there, isn't behind the value
abbrev pub Holds : Tree → Side → Option Tree → Type 0
Holds w side o = (t : Tree) → o ≡ Some t → from_side side t w ≢ Greater

module _ (w : Tree) (flat : IsArray w → ⊥) where
  of_one : (side : Side) (t : Tree) → from_side side t w ≢ Greater → Holds w side (Some t)
  of_one side t h u is =
      let same : t ≡ u = cc in
      subst (λ x. from_side side x w ≢ Greater) same h

  of_none : (side : Side) → Holds w side None
  of_none side t is = absurd cc

  tighter_holds : (side : Side) (a b : Option Tree) → Holds w side a → Holds w side b → Holds w side (tighter side a b)
  tighter_holds side a b h k = outer_of_keeps (λ t. from_side side t w ≢ Greater) (opposite side) a b h k

  range_holds : (from side : Side) (u : Tree) → class w ≡ class u → from_side from u w ≢ Greater → from_side side (range_limit from side u) w ≢ Greater
  range_holds Low Low u same h = h
  range_holds Low High u same h = end_within High u w same
  range_holds High Low u same h = end_within Low u w same
  range_holds High High u same h = h

  weak_holds : (from side : Side) (u : Tree) → class w ≡ class u → from_side from u w ≢ Greater → from_side side (weak_limit from side u) w ≢ Greater
  weak_holds from side (array vs) same h = absurd (no_class w flat same)
  weak_holds from side u same h = range_holds from side u same h

  strict_holds : (from side : Side) (u : Tree) → class w ≡ class u → from_side (opposite from) u w ≡ Greater → from_side from u w ≢ Greater → from_side side (strict_limit from side u) w ≢ Greater
  strict_holds from side u same past h = by (is_eq (compare u (class_end (opposite from) u))) refl
    where
      by : (b : Bool) → is_eq (compare u (class_end (opposite from) u)) ≡ b → from_side side (if b then nothing side else weak_limit from side u) w ≢ Greater
      by true is =
          let end = class_end (opposite from) u in
          let equal : compare u end ≡ Equal = is_equal (compare u end) is in
          let back : compare end u ≡ Equal = compare_total.antisymm end u ∙ ap ordering_reverse equal in
          absurd (behind (opposite from) u end w (equal_pair (opposite from) u end back) (end_within (opposite from) u w same) past)
      by false is = weak_holds from side u same h

  stands : (operator : Operator) (u : Tree) → Stands operator u w → (class w ≡ class u) × (is_so operator (compare w u) ≡ true)
  stands operator u h = itself (λ v. (class v ≡ class u) × (is_so operator (compare v u) ≡ true)) w flat h

  pub equal_value : (u : Tree) → Equals u w → compare w u ≡ Equal
  equal_value u h = itself (λ v. compare v u ≡ Equal) w flat h

  -- the outermost of these is there, and not behind the value
  abbrev Reaches : Side → Option Tree → Type 0
  Reaches side o = (t : Tree) × (o ≡ Some t) × (from_side side t w ≢ Greater)

  first_reaches : (side : Side) (v : Tree) (o : Option Tree) → compare w v ≡ Equal → Reaches side (outer_of side (unless_array v) o)
  first_reaches side (array vs) o same = absurd (no_equal w vs flat same)
  first_reaches side v None same = (v, refl, equal_pair side v w same)
  first_reaches side v (Some t) same = (outer side v t, refl, behind side (outer side v t) v w (outer_first side v t).0 (equal_pair side v w same))

  later_reaches : (side : Side) (a o : Option Tree) → Reaches side o → Reaches side (outer_of side a o)
  later_reaches side None o h = h
  later_reaches side (Some v) o h = rw h.1 (outer side v h.0, refl, behind side (outer side v h.0) h.0 w (outer_first side v h.0).1 h.2)

  some_reaches : (side : Side) (vs : Values) → SomeOf (λ v. Equals v w) vs → Reaches side (outermost side vs)
  some_reaches side no_values h = absurd h
  some_reaches side (item v vs) (inl h) = first_reaches side v (outermost side vs) (equal_value v h)
  some_reaches side (item v vs) (inr h) = later_reaches side (unless_array v) (outermost side vs) (some_reaches side vs h)

  in_holds : (side : Side) (u : Tree) → EqualsSome u w → Holds w side (in_limit side u)
  in_holds side (array vs) h =
      let reached = some_reaches side vs h in
      rw reached.1 (of_one side reached.0 reached.2)
  in_holds side _ h = absurd h

  module _ (found : Bool) (absent : found ≡ false → w ≡ null) where
    exists_holds : (side : Side) (u : Tree) → u ≡ boolean found → Holds w side (exists_limit u)
    exists_holds side (boolean true) is = of_none side
    exists_holds side (boolean false) is =
        let missing : found ≡ false = cc in
        of_one side null (rw (absent missing) (itself_behind side null))
    exists_holds side _ is = of_none side

    one_holds : (side : Side) (operator : Option Operator) (u : Tree) → HoldsBy operator u w found → Holds w side (limit_by side operator u)
    one_holds side (Some Gt) u h =
        let so = stands Gt u h in
        let past : compare w u ≡ Greater = gt_is (compare w u) so.1 in
        of_one side (strict_limit Low side u) (strict_holds Low side u so.0 past (gte_back u past))
      where
        gte_back : (u : Tree) → compare w u ≡ Greater → compare u w ≢ Greater
        gte_back u past e =
            let less : compare u w ≡ Less = compare_total.antisymm u w ∙ ap ordering_reverse past in
            cc
    one_holds side (Some Gte) u h =
        let so = stands Gte u h in
        of_one side (weak_limit Low side u) (weak_holds Low side u so.0 (λ e. gte_is (compare w u) so.1 (sym (compare_total.antisymm u w) ∙ e)))
    one_holds side (Some Lt) u h =
        let so = stands Lt u h in
        let less : compare w u ≡ Less = lt_is (compare w u) so.1 in
        of_one side (strict_limit High side u) (strict_holds High side u so.0 (compare_total.antisymm u w ∙ ap ordering_reverse less) (λ e. cc))
    one_holds side (Some Lte) u h =
        let so = stands Lte u h in
        of_one side (weak_limit High side u) (weak_holds High side u so.0 (lte_is (compare w u) so.1))
    one_holds side (Some In) u h = in_holds side u h
    one_holds side (Some Exists) u h = exists_holds side u h
    one_holds side _ u h = of_none side

    among_holds : (side : Side) (es : Elements) → AllHold es w found → Holds w side (limit_among side es)
    among_holds side no_elements h = of_none side
    among_holds side (element name u es) h = tighter_holds side (limit_by side (operator_of name) u) (limit_among side es) (one_holds side (operator_of name) u h.0) (among_holds side es h.1)

    pub condition_holds : (side : Side) (u : Tree) → MeetsAt u w found → Holds w side (limit_in side u)
    condition_holds side (document es) h = by (has_operators es) h
      where
        by : (b : Bool) → MatchBool b (AllHold es w found) (Equals (document es) w) → Holds w side (if b then limit_among side es else Some (document es))
        by true h = among_holds side es h
        by false h = of_one side (document es) (equal_pair side (document es) w (equal_value (document es) h))
    condition_holds side (array vs) h = absurd (no_equal w vs flat (equal_value (array vs) h))
    condition_holds side u h = of_one side u (equal_pair side u w (equal_value u h))
