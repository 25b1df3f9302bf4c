-- When a document matches a filter (MongoDB 2.6, query and comparison operators).
use Rattle.std.specs.Prelude.{◌≡◌, Bool, true, false, Option, Some, None, is_some, ◌⊎◌, MatchBool}
use Rattle.std.specs.declared.cmp.Ordering.{Ordering}
use Rattle.std.specs.declared.cmp.Ordering.TheVariants.{Less, Equal, Greater}
use Rattle.mm_query.specs.declared.operator.Operator.{Operator}
use Rattle.mm_query.specs.declared.operator.Operator.TheVariants.{Gt, Gte, Lt, Lte, Ne, In, Nin, Exists}
use Rattle.mm_bson.specs.Tree.{Tree, document, array, boolean, Elements, no_elements, element, Values, no_values, item}
use Rattle.mm_bson.specs.Path.{value_at_path}
use Rattle.mm_bson.specs.Order.{class, compare}
use Rattle.mm_keys.specs.Key.{or_null}
use Rattle.mm_query.specs.Form.{operator_of, has_operators, is_and, is_or}

-- some value of an array has this
abbrev pub SomeOf : (Tree → Type 0) → Values → Type 0
SomeOf P no_values = ⊥
SomeOf P (item t vs) = P t ⊎ SomeOf P vs

abbrev pub SomeItem : (Tree → Type 0) → Tree → Type 0
SomeItem P (array vs) = SomeOf P vs
SomeItem P _ = ⊥

-- a value has this, or is an array with such an element
abbrev pub ItOrItem : (Tree → Type 0) → Tree → Type 0
ItOrItem P t = P t ⊎ SomeItem P t

abbrev pub Equals : Tree → Tree → Type 0
Equals u t = ItOrItem (λ v. compare v u ≡ Equal) t

-- how a value of the operand's class stands to it
abbrev pub is_so : Operator → Ordering → Bool
is_so Gt Greater = true
is_so Gte Greater = true
is_so Gte Equal = true
is_so Lt Less = true
is_so Lte Less = true
is_so Lte Equal = true
is_so _ _ = false

abbrev pub Stands : Operator → Tree → Tree → Type 0
Stands operator u t = ItOrItem (λ v. (class v ≡ class u) × (is_so operator (compare v u) ≡ true)) t

abbrev pub EqualsSome : Tree → Tree → Type 0
EqualsSome u t = SomeItem (λ v. Equals v t) u

-- what an operator asks of a value, which is null where the path leads to none
abbrev pub HoldsAt : Operator → Tree → Tree → Bool → Type 0
HoldsAt Ne u t found = Equals u t → ⊥
HoldsAt In u t found = EqualsSome u t
HoldsAt Nin u t found = EqualsSome u t → ⊥
HoldsAt Exists u t found = u ≡ boolean found
HoldsAt operator u t found = Stands operator u t

abbrev pub HoldsBy : Option Operator → Tree → Tree → Bool → Type 0
HoldsBy None u t found = ⊥
HoldsBy (Some operator) u t found = HoldsAt operator u t found

abbrev pub AllHold : Elements → Tree → Bool → Type 0
AllHold no_elements t found = Unit {0}
AllHold (element name u es) t found = HoldsBy (operator_of name) u t found × AllHold es t found

-- a condition is operators, which all hold, or equality
abbrev pub MeetsAt : Tree → Tree → Bool → Type 0
MeetsAt (document es) t found = MatchBool (has_operators es) (AllHold es t found) (Equals (document es) t)
MeetsAt u t found = Equals u t

-- a missing value counts as null, except for $exists
abbrev pub Meets : Tree → Option Tree → Type 0
Meets u o = MeetsAt u (or_null o) (is_some o)

abbrev mutual
  pub Matches : Elements → Elements → Type 0
  Matches no_elements d = Unit {0}
  Matches (element name t es) d = MatchBool (is_and name) (AllMatch t d) (MatchBool (is_or name) (SomeMatch t d) (Meets t (value_at_path name d))) × Matches es d

  pub AllMatch : Tree → Elements → Type 0
  AllMatch (document es) d = Matches es d
  AllMatch (array vs) d = EachMatches vs d
  AllMatch _ d = ⊥

  pub EachMatches : Values → Elements → Type 0
  EachMatches no_values d = Unit {0}
  EachMatches (item t vs) d = AllMatch t d × EachMatches vs d

  pub SomeMatch : Tree → Elements → Type 0
  SomeMatch (document es) d = Matches es d
  SomeMatch (array vs) d = OneMatches vs d
  SomeMatch _ d = ⊥

  pub OneMatches : Values → Elements → Type 0
  OneMatches no_values d = ⊥
  OneMatches (item t vs) d = SomeMatch t d ⊎ OneMatches vs d
