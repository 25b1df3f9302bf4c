-- What the conditions of a filter in memory stand for: the document that they were made of.
use Rattle.std.specs.Prelude.{◌≡◌, ℕ, true, false, List, [], ◌∷◌, Option, Some, None, Result, Ok, Err, codes}
use Rattle.mm_bson.specs.Tree.{Tree, document, array, Elements, no_elements, element, Values, no_values, item}
use Rattle.mm_bson.specs.Path.{value_at_path}
use Rattle.mm_bson.specs.View.{tree}
use Rattle.mm_query.specs.declared.fault.FilterFault.{FilterFault}
use Rattle.mm_query.specs.declared.fault.FilterFault.TheVariants.{BadOperator, NoMemory}
use Rattle.mm_query.specs.declared.operator.Operator.{Operator}
use Rattle.mm_query.specs.declared.operator.Operator.TheVariants.{Gt, Gte, Lt, Lte, Ne, In, Nin, Exists}
use Rattle.mm_query.specs.declared.kept.Test.{Test}
use Rattle.mm_query.specs.declared.kept.Demand.{Demand}
use Rattle.mm_query.specs.declared.kept.Demand.TheVariants.{Equality, Operators}
use Rattle.mm_query.specs.declared.kept.Condition.{Condition}
use Rattle.mm_query.specs.declared.kept.Condition.TheVariants.{At, AllOf, AnyOf}
use Rattle.mm_query.specs.Form.{has_dollar, has_operators}
use Rattle.mm_query.specs.Match.{Meets, EachMatches, OneMatches}
use Rattle.mm_query.specs.Laws.{is_plain}

abbrev pub name_of : Operator → List ℕ
name_of Gt = codes "$gt"
name_of Gte = codes "$gte"
name_of Lt = codes "$lt"
name_of Lte = codes "$lte"
name_of Ne = codes "$ne"
name_of In = codes "$in"
name_of Nin = codes "$nin"
name_of Exists = codes "$exists"

abbrev pub tests_of : List Test → Elements
tests_of [] = no_elements
tests_of (x ∷ xs) = element (name_of x.operator) (tree x.operand) (tests_of xs)

abbrev pub demand_tree : Demand → Tree
demand_tree (Equality u) = tree u
demand_tree (Operators xs) = document (tests_of xs.items)

-- filters as the values of an array
abbrev pub filters_of : List Elements → Values
filters_of [] = no_values
filters_of (es ∷ fs) = item (document es) (filters_of fs)

-- a condition before others
abbrev pub condition_on : Condition → Elements → Elements
condition_on (At path demand) es = element path (demand_tree demand) es
condition_on (AllOf fs) es = element (codes "$and") (array (filters_of fs.items)) es
condition_on (AnyOf fs) es = element (codes "$or") (array (filters_of fs.items)) es

abbrev pub conditions_of : List Condition → Elements
conditions_of [] = no_elements
conditions_of (c ∷ cs) = condition_on c (conditions_of cs)

-- a demand is kept as equality exactly where it isn't operators
abbrev pub IsDemand : Demand → Type 0
IsDemand (Equality u) = is_plain (tree u) false
IsDemand (Operators xs) = has_operators (tests_of xs.items) ≡ true

-- a path is no operator
abbrev pub IsCondition : Condition → Type 0
IsCondition (At path demand) = (has_dollar path ≡ false) × IsDemand demand
IsCondition _ = Unit {0}

abbrev pub AreConditions : List Condition → Type 0
AreConditions [] = Unit {0}
AreConditions (c ∷ cs) = IsCondition c × AreConditions cs

-- what a condition asks of a document
abbrev pub Holds : Condition → Elements → Type 0
Holds (At path demand) d = Meets (demand_tree demand) (value_at_path path d)
Holds (AllOf fs) d = EachMatches (filters_of fs.items) d
Holds (AnyOf fs) d = OneMatches (filters_of fs.items) d

-- what a call answers where this is the first wrong operator: want of memory is free
abbrev pub Refuses : FilterFault → Option (List ℕ) → Type 0
Refuses (BadOperator name) o = o ≡ Some name
Refuses NoMemory o = Unit {0}

abbrev pub Passes : {X : Type 0} → Result X FilterFault → Option (List ℕ) → Type 0
Passes (Ok x) o = o ≡ None
Passes (Err f) o = Refuses f o
