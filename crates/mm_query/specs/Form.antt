-- Which filters there are, and the first wrong operator of any other document, in reading order (MongoDB 2.6, query operators).
use Rattle.std.specs.Prelude.{ℕ, Bool, true, false, List, [], ◌∷◌, Option, Some, None, ◌==◌, ◌||◌, if◌then◌else◌, codes}
use Rattle.std.specs.Str.{bytes_eq}
use Rattle.mm_query.specs.declared.operator.Operator.{Operator}
use Rattle.mm_query.specs.declared.operator.Operator.TheVariants.{Gt, Gte, Lt, Lte, Ne, In, Nin, Exists}
use Rattle.mm_bson.specs.Tree.{Tree, document, array, boolean, Elements, no_elements, element, Values, no_values, item}

-- a name that begins with a dollar sign
abbrev pub has_dollar : List ℕ → Bool
has_dollar [] = false
has_dollar (b ∷ name) = b == 36

abbrev pub is_and : List ℕ → Bool
is_and name = bytes_eq name (codes "$and")

abbrev pub is_or : List ℕ → Bool
is_or name = bytes_eq name (codes "$or")

abbrev pub order_operator : List ℕ → Option Operator
order_operator name =
    if bytes_eq name (codes "$gt") then Some Gt else (if bytes_eq name (codes "$gte") then Some Gte else (if bytes_eq name (codes "$lt") then Some Lt else (if bytes_eq name (codes "$lte") then Some Lte else None)))

abbrev pub other_operator : List ℕ → Option Operator
other_operator name =
    if bytes_eq name (codes "$ne") then Some Ne else (if bytes_eq name (codes "$in") then Some In else (if bytes_eq name (codes "$nin") then Some Nin else (if bytes_eq name (codes "$exists") then Some Exists else None)))

abbrev pub or : {X : Type 0} → Option X → Option X → Option X
or None later = later
or (Some x) later = Some x

abbrev pub operator_of : List ℕ → Option Operator
operator_of name = or (order_operator name) (other_operator name)

abbrev pub is_array : Tree → Bool
is_array (array vs) = true
is_array _ = false

abbrev pub is_boolean : Tree → Bool
is_boolean (boolean b) = true
is_boolean _ = false

-- an operand is one for its operator
abbrev pub suits : Operator → Tree → Bool
suits In t = is_array t
suits Nin t = is_array t
suits Exists t = is_boolean t
suits _ t = true

abbrev pub wrong : List ℕ → Tree → Option Operator → Option (List ℕ)
wrong name t None = Some name
wrong name t (Some operator) = if suits operator t then None else Some name

abbrev pub wrong_operators : Elements → Option (List ℕ)
wrong_operators no_elements = None
wrong_operators (element name t es) = or (wrong name t (operator_of name)) (wrong_operators es)

-- a document whose first name begins with a dollar sign has operators
abbrev pub has_operators : Elements → Bool
has_operators no_elements = false
has_operators (element name t es) = has_dollar name

abbrev pub wrong_condition : Tree → Option (List ℕ)
wrong_condition (document es) = if has_operators es then wrong_operators es else None
wrong_condition _ = None

-- $and and $or take an array of documents that isn't empty
abbrev pub are_documents : Values → Bool
are_documents no_values = true
are_documents (item (document es) vs) = are_documents vs
are_documents (item _ vs) = false

abbrev pub has_filters : Tree → Bool
has_filters (array (item t vs)) = are_documents (item t vs)
has_filters _ = false

abbrev mutual
  pub wrong_filter : Elements → Option (List ℕ)
  wrong_filter no_elements = None
  wrong_filter (element name t es) = or (if is_and name || is_or name then (if has_filters t then wrong_inside t else Some name) else (if has_dollar name then Some name else wrong_condition t)) (wrong_filter es)

  pub wrong_inside : Tree → Option (List ℕ)
  wrong_inside (document es) = wrong_filter es
  wrong_inside (array vs) = wrong_filters vs
  wrong_inside _ = None

  pub wrong_filters : Values → Option (List ℕ)
  wrong_filters no_values = None
  wrong_filters (item t vs) = or (wrong_inside t) (wrong_filters vs)
