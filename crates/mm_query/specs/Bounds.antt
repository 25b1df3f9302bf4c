-- Between which keys those of the matching documents lie (MongoDB 2.6, index bounds).
use Rattle.std.specs.Prelude.{◌≢◌, ℕ, negsuc, Bool, true, false, List, [], ◌∷◌, Option, Some, None, option_map, if◌then◌else◌}
use Rattle.std.specs.Str.{bytes_eq}
use Rattle.std.specs.declared.cmp.Ordering.{Ordering}
use Rattle.std.specs.declared.cmp.Ordering.TheVariants.{Greater}
use Rattle.std.specs.Ordering.{is_eq, min_by_ordering}
use Rattle.mm_query.specs.declared.operator.Operator.{Operator}
use Rattle.mm_query.specs.declared.operator.Operator.TheVariants.{Gt, Gte, Lt, Lte, In, Exists}
use Rattle.mm_query.specs.declared.side.Side.{Side}
use Rattle.mm_query.specs.declared.side.Side.TheVariants.{Low, High}
use Rattle.mm_bson.specs.Tree.{Tree, min_key, null, int32, int64, string, document, array, binary, object_id, boolean, date, timestamp, max_key, Elements, no_elements, element, Values, no_values, item}
use Rattle.mm_bson.specs.Order.{compare}
use Rattle.mm_keys.specs.Key.{key, HasKey}
use Rattle.mm_keys.specs.KeyOrder.{key_compare}
use Rattle.mm_query.specs.Form.{is_and, is_or, is_array, or, operator_of, has_operators}
use Rattle.mm_query.specs.Match.{Matches}

-- a field's name is the path, and is no $and and no $or
abbrev pub is_at : List ℕ → List ℕ → Bool
is_at path name = if is_and name then false else (if is_or name then false else bytes_eq name path)

-- the value that isn't an array to which a condition is equality
abbrev pub equal_to : Tree → Option Tree
equal_to (array vs) = None
equal_to (document es) = if has_operators es then None else Some (document es)
equal_to t = Some t

-- how two values stand, seen from a side: from High the greater comes first
abbrev pub from_side : Side → Tree → Tree → Ordering
from_side Low t u = compare t u
from_side High t u = compare u t

-- of two values the one that comes first from a side; where they are equal, the first
abbrev pub outer : Side → Tree → Tree → Tree
outer side t u = min_by_ordering (from_side side t u) t u

-- the same of values that may not be there
abbrev pub outer_of : Side → Option Tree → Option Tree → Option Tree
outer_of side None other = other
outer_of side (Some t) None = Some t
outer_of side (Some t) (Some u) = Some (outer side t u)

abbrev pub opposite : Side → Side
opposite Low = High
opposite High = Low

abbrev pub extreme : Side → Tree
extreme Low = min_key
extreme High = max_key

-- ---- limits: the values of keys that a condition allows don't come before its limit, seen from a side

-- of two limits the one that leaves less
abbrev pub tighter : Side → Option Tree → Option Tree → Option Tree
tighter side = outer_of (opposite side)

-- the limits between which nothing lies
abbrev pub nothing : Side → Tree
nothing side = extreme (opposite side)

-- the least ObjectId
abbrev pub no_id : List ℕ
no_id = 0 ∷ 0 ∷ 0 ∷ 0 ∷ 0 ∷ 0 ∷ 0 ∷ 0 ∷ 0 ∷ 0 ∷ 0 ∷ 0 ∷ []

-- No value of the class of this one is less: the least of the class. Numbers, dates and ObjectIds have none that the order knows, and then it is
-- the greatest value before them, or for ObjectIds the least binary.
abbrev pub least : Tree → Tree
least min_key = min_key
least null = null
least (int32 z) = null
least (int64 z) = null
least (string s) = string []
least (document es) = document no_elements
least (array vs) = array no_values
least (binary k bytes) = binary 0 []
least (object_id bytes) = binary 0 []
least (boolean b) = boolean false
least (date z) = boolean true
least (timestamp s i) = timestamp 0 0
least max_key = max_key

-- none is greater: the greatest of the class, or where it has none, the least value behind it
abbrev pub greatest : Tree → Tree
greatest min_key = min_key
greatest null = null
greatest (int32 z) = string []
greatest (int64 z) = string []
greatest (string s) = document no_elements
greatest (document es) = array no_values
greatest (array vs) = binary 0 []
greatest (binary k bytes) = object_id no_id
greatest (object_id bytes) = boolean false
greatest (boolean b) = boolean true
greatest (date z) = timestamp 0 0
greatest (timestamp s i) = max_key
greatest max_key = max_key

abbrev pub class_end : Side → Tree → Tree
class_end Low t = least t
class_end High t = greatest t

-- values of the operand's class that aren't before it, seen from one side: the limit from another
abbrev pub range_limit : Side → Side → Tree → Tree
range_limit Low Low u = u
range_limit Low High u = greatest u
range_limit High Low u = least u
range_limit High High u = u

-- A key has no arrays.
abbrev pub weak_limit : Side → Side → Tree → Tree
weak_limit from side u = if is_array u then nothing side else range_limit from side u

-- none of the class is behind the class's end
abbrev pub strict_limit : Side → Side → Tree → Tree
strict_limit from side u = if is_eq (compare u (class_end (opposite from) u)) then nothing side else weak_limit from side u

abbrev pub unless_array : Tree → Option Tree
unless_array (array vs) = None
unless_array t = Some t

-- of the values that are no arrays the one that comes first from a side
abbrev pub outermost : Side → Values → Option Tree
outermost side no_values = None
outermost side (item t vs) = outer_of side (unless_array t) (outermost side vs)

abbrev pub or_nothing : Side → Option Tree → Tree
or_nothing side None = nothing side
or_nothing side (Some t) = t

abbrev pub in_limit : Side → Tree → Option Tree
in_limit side (array vs) = Some (or_nothing side (outermost side vs))
in_limit side _ = None

-- a missing value is null in the key
abbrev pub exists_limit : Tree → Option Tree
exists_limit (boolean false) = Some null
exists_limit _ = None

-- the limit that an operator gives
abbrev pub limit_by : Side → Option Operator → Tree → Option Tree
limit_by side (Some Gt) u = Some (strict_limit Low side u)
limit_by side (Some Gte) u = Some (weak_limit Low side u)
limit_by side (Some Lt) u = Some (strict_limit High side u)
limit_by side (Some Lte) u = Some (weak_limit High side u)
limit_by side (Some In) u = in_limit side u
limit_by side (Some Exists) u = exists_limit u
limit_by side operator u = None

-- of operators, which all hold, the tightest
abbrev pub limit_among : Side → Elements → Option Tree
limit_among side no_elements = None
limit_among side (element name u es) = tighter side (limit_by side (operator_of name) u) (limit_among side es)

-- of a condition: operators, or equality
abbrev pub limit_in : Side → Tree → Option Tree
limit_in side (document es) = if has_operators es then limit_among side es else Some (document es)
limit_in side (array vs) = Some (nothing side)
limit_in side t = Some t

-- of all that a filter asks of the value at a path, also by $and, the tightest
abbrev mutual
  pub limit_at : Side → List ℕ → Elements → Option Tree
  limit_at side path no_elements = None
  limit_at side path (element name t es) = tighter side (if is_and name then limit_inside side path t else (if is_at path name then limit_in side t else None)) (limit_at side path es)

  pub limit_inside : Side → List ℕ → Tree → Option Tree
  limit_inside side path (document es) = limit_at side path es
  limit_inside side path (array vs) = limit_each side path vs
  limit_inside side path _ = None

  pub limit_each : Side → List ℕ → Values → Option Tree
  limit_each side path no_values = None
  limit_each side path (item t vs) = tighter side (limit_inside side path t) (limit_each side path vs)

-- the value of the first equality at a path, at the top of a filter
abbrev pub first_equal : List ℕ → Elements → Option Tree
first_equal path no_elements = None
first_equal path (element name t es) = or (if is_at path name then equal_to t else None) (first_equal path es)

-- between which values those at a path lie: an equality goes before a limit
abbrev pub value_bound : Side → List ℕ → Elements → Option Tree
value_bound side path filter = or (first_equal path filter) (limit_at side path filter)

-- by -1 the greater values come first
abbrev pub turned : Tree → Side → Side
turned (int32 (negsuc z)) side = opposite side
turned sign side = side

-- for each place of a specification the first or the last value of all, in the order of the place
abbrev pub extremes : Side → Elements → Elements
extremes side no_elements = no_elements
extremes side (element path sign spec) = element [] (extreme (turned sign side)) (extremes side spec)

-- a value at the first place, and behind it these
abbrev pub key_from : Side → Tree → Elements → Elements
key_from side t no_elements = no_elements
key_from side t (element path sign spec) = element [] t (extremes side spec)

abbrev pub bound : Side → Elements → Elements → Option Elements
bound side filter no_elements = None
bound side filter (element path sign spec) = option_map (λ t. element [] t (extremes side spec)) (value_bound (turned sign side) path filter)

-- the value of the first equality on the first path
abbrev pub first_equality : Elements → Elements → Option Tree
first_equality no_elements filter = None
first_equality (element path sign spec) filter = first_equal path filter

-- a key isn't beyond a bound that is there
abbrev pub Within : Side → Elements → Option Elements → Elements → Type 0
Within side spec None k = Unit {0}
Within Low spec (Some low) k = key_compare spec low k ≢ Greater
Within High spec (Some high) k = key_compare spec k high ≢ Greater

-- the keys of all matching documents lie between the two bounds
abbrev pub Bound : Elements → Elements → Option Elements → Option Elements → Type 0
Bound filter spec low high = (d : Elements) → Matches filter d → HasKey d spec → Within Low spec low (key d spec) × Within High spec high (key d spec)
