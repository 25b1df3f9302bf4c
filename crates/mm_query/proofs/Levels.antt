-- A limit is no deeper than the filter, or than an end of a class.
use Rattle.std.proofs.Common.{◌≡◌, ℕ, ◌≤◌, ◌<◌, Bool, true, false, List, Option, Some, None, sym, ap, ◌∙◌, arith}
use Rattle.std.specs.Prelude.{option_map, if◌then◌else◌}
use Rattle.std.specs.Borrow.{Bor}
use Rattle.std.specs.Ordering.{is_eq}
use Rattle.mm_bson.specs.declared.doc.Value.{Value}
use Rattle.mm_bson.specs.View.{tree}
use Rattle.mm_bson.specs.Tree.{Tree, min_key, null, int32, int64, string, document, array, binary, object_id, boolean, date, timestamp, max_key, Elements, no_elements, element, Values, no_values, item, tree_depth, depth, values_depth}
use Rattle.mm_bson.specs.Order.{compare}
use Rattle.mm_query.specs.declared.operator.Operator.{Operator}
use Rattle.mm_query.specs.declared.operator.Operator.TheVariants.{Gt, Gte, Lt, Lte, In, Exists}
use Rattle.mm_query.specs.declared.side.Side.{Side}
use Rattle.mm_query.specs.declared.side.Side.TheVariants.{Low, High}
use Rattle.mm_query.specs.Form.{or, operator_of, has_operators, is_and}
use Rattle.mm_query.specs.Bounds.{is_at, equal_to, outer_of, opposite, nothing, least, greatest, class_end, range_limit, weak_limit, strict_limit, unless_array, outermost, or_nothing, in_limit, exists_limit, limit_by, limit_among, limit_in, limit_at, limit_inside, limit_each, first_equal, value_bound}
use Rattle.mm_query.proofs.Outer.{outer_of_keeps}

nothing_flat : (side : Side) → tree_depth (nothing side) ≤ 0
nothing_flat Low = omega arith
nothing_flat High = omega arith

ends_flat : (u : Tree) → (tree_depth (least u) ≤ 1) × (tree_depth (greatest u) ≤ 1)
ends_flat min_key = (omega arith, omega arith)
ends_flat null = (omega arith, omega arith)
ends_flat (int32 z) = (omega arith, omega arith)
ends_flat (int64 z) = (omega arith, omega arith)
ends_flat (string s) = (omega arith, omega arith)
ends_flat (document es) = (omega arith, omega arith)
ends_flat (array vs) = (omega arith, omega arith)
ends_flat (binary k bytes) = (omega arith, omega arith)
ends_flat (object_id bytes) = (omega arith, omega arith)
ends_flat (boolean b) = (omega arith, omega arith)
ends_flat (date z) = (omega arith, omega arith)
ends_flat (timestamp s i) = (omega arith, omega arith)
ends_flat max_key = (omega arith, omega arith)

-- so many levels are allowed, one at least
module _ (n : ℕ) (some : 1 ≤ n) where
  abbrev IsShallow : Option Tree → Type 0
  IsShallow o = (t : Tree) → o ≡ Some t → tree_depth t ≤ n

  of_one : (t : Tree) → tree_depth t ≤ n → IsShallow (Some t)
  of_one t le u is =
      let same : t ≡ u = cc in
      omega (arith, le, ap tree_depth same)

  of_none : IsShallow None
  of_none t is = absurd cc

  outer_shallow : (side : Side) (a b : Option Tree) → IsShallow a → IsShallow b → IsShallow (outer_of side a b)
  outer_shallow side a b h k = outer_of_keeps (λ t. tree_depth t ≤ n) side a b h k

  range_shallow : (from side : Side) (u : Tree) → tree_depth u ≤ n → tree_depth (range_limit from side u) ≤ n
  range_shallow Low Low u le = le
  range_shallow Low High u le = omega (arith, (ends_flat u).1, some)
  range_shallow High Low u le = omega (arith, (ends_flat u).0, some)
  range_shallow High High u le = le

  weak_shallow : (from side : Side) (u : Tree) → tree_depth u ≤ n → tree_depth (weak_limit from side u) ≤ n
  weak_shallow from side (array vs) le = omega (arith, nothing_flat side)
  weak_shallow from side u le = range_shallow from side u le

  strict_shallow : (from side : Side) (u : Tree) → tree_depth u ≤ n → tree_depth (strict_limit from side u) ≤ n
  strict_shallow from side u le = by (is_eq (compare u (class_end (opposite from) u)))
    where
      by : (b : Bool) → tree_depth (if b then nothing side else weak_limit from side u) ≤ n
      by true = omega (arith, nothing_flat side)
      by false = weak_shallow from side u le

  unless_shallow : (u : Tree) → tree_depth u ≤ n → IsShallow (unless_array u)
  unless_shallow (array vs) le = of_none
  unless_shallow u le = of_one u le

  outermost_shallow : (side : Side) (vs : Values) → values_depth vs ≤ n → IsShallow (outermost side vs)
  outermost_shallow side no_values le = of_none
  outermost_shallow side (item u vs) le = outer_shallow side (unless_array u) (outermost side vs) (unless_shallow u (omega (arith, le))) (outermost_shallow side vs (omega (arith, le)))

  in_shallow : (side : Side) (u : Tree) → tree_depth u ≤ n → IsShallow (in_limit side u)
  in_shallow side (array vs) le = by (outermost side vs) (outermost_shallow side vs (omega (arith, le)))
    where
      by : (o : Option Tree) → IsShallow o → IsShallow (Some (or_nothing side o))
      by None h = of_one (nothing side) (omega (arith, nothing_flat side))
      by (Some t) h = h
  in_shallow side _ le = of_none

  exists_shallow : (u : Tree) → IsShallow (exists_limit u)
  exists_shallow (boolean true) = of_none
  exists_shallow (boolean false) = of_one _ (omega arith)
  exists_shallow _ = of_none

  by_shallow : (side : Side) (operator : Option Operator) (u : Tree) → tree_depth u ≤ n → IsShallow (limit_by side operator u)
  by_shallow side (Some Gt) u le = of_one _ (strict_shallow Low side u le)
  by_shallow side (Some Gte) u le = of_one _ (weak_shallow Low side u le)
  by_shallow side (Some Lt) u le = of_one _ (strict_shallow High side u le)
  by_shallow side (Some Lte) u le = of_one _ (weak_shallow High side u le)
  by_shallow side (Some In) u le = in_shallow side u le
  by_shallow side (Some Exists) u le = exists_shallow u
  by_shallow side _ u le = of_none

  among_shallow : (side : Side) (es : Elements) → depth es ≤ n → IsShallow (limit_among side es)
  among_shallow side no_elements le = of_none
  among_shallow side (element name u es) le =
      outer_shallow (opposite side) (limit_by side (operator_of name) u) (limit_among side es) (by_shallow side (operator_of name) u (omega (arith, le))) (among_shallow side es (omega (arith, le)))

  condition_shallow : (side : Side) (u : Tree) → tree_depth u ≤ n → IsShallow (limit_in side u)
  condition_shallow side (document es) le = by (has_operators es)
    where
      by : (b : Bool) → IsShallow (if b then limit_among side es else Some (document es))
      by true = among_shallow side es (omega (arith, le))
      by false = of_one (document es) le
  condition_shallow side (array vs) le = of_one (nothing side) (omega (arith, nothing_flat side))
  condition_shallow side u le = of_one u le

  field_shallow : (side : Side) (path name : List ℕ) (u : Tree) → tree_depth u ≤ n → IsShallow (limit_inside side path u) → IsShallow (if is_and name then limit_inside side path u else (if is_at path name then limit_in side u else None))
  field_shallow side path name u le inside = by (is_and name) (is_at path name)
    where
      by : (a b : Bool) → IsShallow (if a then limit_inside side path u else (if b then limit_in side u else None))
      by true b = inside
      by false true = condition_shallow side u le
      by false false = of_none

  mutual
    at_shallow : (side : Side) (path : List ℕ) (es : Elements) → depth es ≤ n → IsShallow (limit_at side path es)
    at_shallow side path no_elements le = of_none
    at_shallow side path (element name u es) le =
        outer_shallow (opposite side) (if is_and name then limit_inside side path u else (if is_at path name then limit_in side u else None)) (limit_at side path es) (field_shallow side path name u (omega (arith, le)) (inside_shallow side path u (omega (arith, le)))) (at_shallow side path es (omega (arith, le)))

    inside_shallow : (side : Side) (path : List ℕ) (u : Tree) → tree_depth u ≤ n → IsShallow (limit_inside side path u)
    inside_shallow side path (document es) le = at_shallow side path es (omega (arith, le))
    inside_shallow side path (array vs) le = each_shallow side path vs (omega (arith, le))
    inside_shallow side path _ le = of_none

    each_shallow : (side : Side) (path : List ℕ) (vs : Values) → values_depth vs ≤ n → IsShallow (limit_each side path vs)
    each_shallow side path no_values le = of_none
    each_shallow side path (item u vs) le = outer_shallow (opposite side) (limit_inside side path u) (limit_each side path vs) (inside_shallow side path u (omega (arith, le))) (each_shallow side path vs (omega (arith, le)))

  equal_shallow : (u : Tree) → tree_depth u ≤ n → IsShallow (equal_to u)
  equal_shallow (array vs) le = of_none
  equal_shallow (document es) le = by (has_operators es)
    where
      by : (b : Bool) → IsShallow (if b then None else Some (document es))
      by true = of_none
      by false = of_one (document es) le
  equal_shallow u le = of_one u le

  or_shallow : (a b : Option Tree) → IsShallow a → IsShallow b → IsShallow (or a b)
  or_shallow None b h k = k
  or_shallow (Some t) b h k = h

  first_shallow : (path : List ℕ) (es : Elements) → depth es ≤ n → IsShallow (first_equal path es)
  first_shallow path no_elements le = of_none
  first_shallow path (element name u es) le = or_shallow (if is_at path name then equal_to u else None) (first_equal path es) (by (is_at path name)) (first_shallow path es (omega (arith, le)))
    where
      by : (b : Bool) → IsShallow (if b then equal_to u else None)
      by true = equal_shallow u (omega (arith, le))
      by false = of_none

  value_shallow : (side : Side) (path : List ℕ) (es : Elements) → depth es ≤ n → IsShallow (value_bound side path es)
  value_shallow side path es le = or_shallow (first_equal path es) (limit_at side path es) (first_shallow path es le) (at_shallow side path es le)

pub bound_shallow : (side : Side) (path : List ℕ) (es : Elements) (found : Bor Value) (o : Option (Bor Value)) → depth es < 100 → o ≡ Some found → option_map (λ v. tree v.now) o ≡ value_bound side path es
    → tree_depth (tree found.now) < 100
bound_shallow side path es found o few is given =
    let le = value_shallow 99 (omega arith) side path es (omega (arith, few)) (tree found.now) (sym given ∙ ap (option_map (λ v. tree v.now)) is) in
    omega (arith, le)
