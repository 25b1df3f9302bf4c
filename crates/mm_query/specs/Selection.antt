-- Whether a document matches a filter, as a test (MongoDB 2.6, query and comparison operators). The law `selects_what_matches` says that it is the relation of matching.
use Rattle.std.specs.Prelude.{Bool, true, false, Option, Some, None, is_some, ◌&&◌, ◌||◌, not, ◌==◌, if◌then◌else◌}
use Rattle.std.specs.Ordering.{is_eq}
use Rattle.mm_bson.specs.Tree.{Tree, document, array, boolean, Elements, no_elements, element, Values, no_values, item}
use Rattle.mm_bson.specs.Path.{value_at_path}
use Rattle.mm_bson.specs.Order.{class, compare}
use Rattle.mm_keys.specs.Key.{or_null}
use Rattle.mm_query.specs.declared.operator.Operator.{Operator}
use Rattle.mm_query.specs.declared.operator.Operator.TheVariants.{Ne, In, Nin, Exists}
use Rattle.mm_query.specs.Form.{operator_of, has_operators, is_and, is_or}
use Rattle.mm_query.specs.Match.{is_so}

-- some value of an array passes
abbrev pub some_of : (Tree → Bool) → Values → Bool
some_of p no_values = false
some_of p (item t vs) = p t || some_of p vs

abbrev pub some_item : (Tree → Bool) → Tree → Bool
some_item p (array vs) = some_of p vs
some_item p _ = false

-- a value passes, or is an array with such an element
abbrev pub it_or_item : (Tree → Bool) → Tree → Bool
it_or_item p t = p t || some_item p t

abbrev pub equals : Tree → Tree → Bool
equals u t = it_or_item (λ v. is_eq (compare v u)) t

abbrev pub stands : Operator → Tree → Tree → Bool
stands operator u t = it_or_item (λ v. class v == class u && is_so operator (compare v u)) t

abbrev pub equals_some : Tree → Tree → Bool
equals_some u t = some_item (λ v. equals v t) u

abbrev pub is_bool : Tree → Bool → Bool
is_bool (boolean true) b = b
is_bool (boolean false) b = not b
is_bool _ b = false

-- what an operator asks of a value, which is null where the path leads to none
abbrev pub holds_at : Operator → Tree → Tree → Bool → Bool
holds_at Ne u t found = not (equals u t)
holds_at In u t found = equals_some u t
holds_at Nin u t found = not (equals_some u t)
holds_at Exists u t found = is_bool u found
holds_at operator u t found = stands operator u t

abbrev pub holds_by : Option Operator → Tree → Tree → Bool → Bool
holds_by None u t found = false
holds_by (Some operator) u t found = holds_at operator u t found

abbrev pub all_hold : Elements → Tree → Bool → Bool
all_hold no_elements t found = true
all_hold (element name u es) t found = holds_by (operator_of name) u t found && all_hold es t found

-- a condition is operators, which all hold, or equality
abbrev pub meets_at : Tree → Tree → Bool → Bool
meets_at (document es) t found = if has_operators es then all_hold es t found else equals (document es) t
meets_at u t found = equals u t

abbrev pub meets : Tree → Option Tree → Bool
meets u o = meets_at u (or_null o) (is_some o)

-- all fields of a filter hold
abbrev mutual
  pub selects : Elements → Elements → Bool
  selects no_elements d = true
  selects (element name t es) d = (if is_and name then all_select t d else (if is_or name then some_select t d else meets t (value_at_path name d))) && selects es d

  pub all_select : Tree → Elements → Bool
  all_select (document es) d = selects es d
  all_select (array vs) d = each_selects vs d
  all_select _ d = false

  pub each_selects : Values → Elements → Bool
  each_selects no_values d = true
  each_selects (item t vs) d = all_select t d && each_selects vs d

  pub some_select : Tree → Elements → Bool
  some_select (document es) d = selects es d
  some_select (array vs) d = one_selects vs d
  some_select _ d = false

  pub one_selects : Values → Elements → Bool
  one_selects no_values d = false
  one_selects (item t vs) d = some_select t d || one_selects vs d
