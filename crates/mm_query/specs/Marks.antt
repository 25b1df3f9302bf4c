-- The places of a filter at which something may be wrong, in reading order: each name that is or should be an operator, and whether it is right there. The law `wrong_operators_come_first` says that a document is a filter where all are right, and that the first wrong operator is the first of them that isn't.
use Rattle.std.specs.Prelude.{◌≡◌, ◌↔◌, ℕ, Bool, true, false, List, [], ◌∷◌, ◌++◌, Option, Some, None, ◌||◌, if◌then◌else◌}
use Rattle.mm_query.specs.declared.operator.Operator.{Operator}
use Rattle.mm_bson.specs.Tree.{Tree, document, array, Elements, no_elements, element, Values, no_values, item}
use Rattle.mm_query.specs.Form.{has_dollar, is_and, is_or, operator_of, suits, has_operators, has_filters, wrong_filter}

pub record Mark : Type 0 where
  pub name : List ℕ
  pub right : Bool

abbrev pub suits_by : Option Operator → Tree → Bool
suits_by None t = false
suits_by (Some operator) t = suits operator t

-- each operator of a condition, right where it is one and its operand suits it
abbrev pub operators : Elements → List Mark
operators no_elements = []
operators (element name t es) = record { name = name; right = suits_by (operator_of name) t } ∷ operators es

abbrev pub in_condition : Tree → List Mark
in_condition (document es) = if has_operators es then operators es else []
in_condition _ = []

-- $and and $or are right before filters, any other name with a dollar sign is wrong
abbrev pub in_field : List ℕ → Tree → List Mark → List Mark
in_field name t inside = if is_and name || is_or name then record { name = name; right = has_filters t } ∷ inside else (if has_dollar name then record { name = name; right = false } ∷ [] else in_condition t)

abbrev mutual
  pub marks : Elements → List Mark
  marks no_elements = []
  marks (element name t es) = in_field name t (marks_inside t) ++ marks es

  pub marks_inside : Tree → List Mark
  marks_inside (document es) = marks es
  marks_inside (array vs) = marks_each vs
  marks_inside _ = []

  pub marks_each : Values → List Mark
  marks_each no_values = []
  marks_each (item t vs) = marks_inside t ++ marks_each vs

abbrev pub AreRight : List Mark → Type 0
AreRight [] = Unit {0}
AreRight (m ∷ ms) = (m.right ≡ true) × AreRight ms

-- all before it are right, and it isn't
pub record IsFirstWrong (ms : List Mark) (name : List ℕ) : Type 0 where
  pub before : List Mark
  pub behind : List Mark
  pub parts : ms ≡ before ++ (record { name = name; right = false }) ∷ behind
  pub right : AreRight before

abbrev pub WrongComesFirst : Type 0
WrongComesFirst = (es : Elements) (name : List ℕ) → wrong_filter es ≡ Some name ↔ IsFirstWrong (marks es) name

abbrev pub RightIsFilter : Type 0
RightIsFilter = (es : Elements) → wrong_filter es ≡ None ↔ AreRight (marks es)
