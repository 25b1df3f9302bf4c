-- What is wrong with a change before any document is seen: the first place in reading order at which something is wrong.
use Rattle.std.specs.Prelude.{◌≡◌, ℕ, Bool, true, false, List, [], ◌∷◌, ◌++◌, Option, Some, None, Result, Ok, Err, ◌==◌, ◌&&◌, not, if◌then◌else◌, is_some}
use Rattle.mm_update.specs.declared.fault.ChangeFault.{ChangeFault}
use Rattle.mm_update.specs.declared.fault.ChangeFault.TheVariants.{BadChange, ChangesId, NotNumber, NoMemory}
use Rattle.mm_update.specs.declared.step.Operator.{Operator}
use Rattle.mm_update.specs.declared.step.Operator.TheVariants.{Inc}
use Rattle.mm_bson.specs.Tree.{Tree, document, Elements, no_elements, element}
use Rattle.mm_bson.specs.Order.{class}
use Rattle.mm_update.specs.Paths.{has_dollar, has_empty_step, overlaps_any, is_id}
use Rattle.mm_update.specs.Edit.{operator_of, Edit, edits_at}

-- the places of a change by operators, in reading order: each field, and behind it the paths of its operand
pub data Place : Type 0 where
  field : List ℕ → Tree → Place
  entry : Edit → Place

abbrev pub entries : List Edit → List Place
entries [] = []
entries (e ∷ es) = entry e ∷ entries es

abbrev pub entries_in : Option Operator → Tree → List Place
entries_in (Some operator) (document paths) = entries (edits_at operator paths)
entries_in _ _ = []

abbrev pub places : Elements → List Place
places no_elements = []
places (element name t es) = field name t ∷ (entries_in (operator_of name) t ++ places es)

-- an operand is a document with a path at least
abbrev pub has_path : Tree → Bool
has_path (document (element path t paths)) = true
has_path _ = false

abbrev pub is_number : Tree → Bool
is_number t = class t == 2

abbrev pub needs_number : Operator → Bool
needs_number Inc = true
needs_number _ = false

-- a field that is no operator, or whose operand is no document with a path
abbrev pub wrong_field : List ℕ → Tree → Option ChangeFault
wrong_field name t = if is_some (operator_of name) && has_path t then None else Some (BadChange name)

-- what is wrong with an edit, where these are the paths before it
abbrev pub wrong_edit : List (List ℕ) → Edit → Option ChangeFault
wrong_edit earlier e =
    if has_empty_step e.path then Some (BadChange e.path)
    else (if overlaps_any earlier e.path then Some (BadChange e.path)
    else (if is_id e.path then Some ChangesId
    else (if needs_number e.operator && not (is_number e.operand) then Some (NotNumber e.path) else None)))

abbrev pub or_else : Option ChangeFault → Option ChangeFault → Option ChangeFault
or_else None later = later
or_else (Some f) later = Some f

abbrev pub first_wrong : List (List ℕ) → List Place → Option ChangeFault
first_wrong earlier [] = None
first_wrong earlier (field name t ∷ ps) = or_else (wrong_field name t) (first_wrong earlier ps)
first_wrong earlier (entry e ∷ ps) = or_else (wrong_edit earlier e) (first_wrong (earlier ++ e.path ∷ []) ps)

-- a replacement has no operator
abbrev pub first_operator : Elements → Option ChangeFault
first_operator no_elements = None
first_operator (element name t es) = if has_dollar name then Some (BadChange name) else first_operator es

-- the fault of a change by its form, if it has one
abbrev pub form : Elements → Option ChangeFault
form no_elements = None
form (element name t es) = if has_dollar name then first_wrong [] (places (element name t es)) else first_operator es

-- what a call answers where these are the rules: want of memory is free
abbrev pub IsFault : ChangeFault → ChangeFault → Type 0
IsFault NoMemory g = Unit {0}
IsFault f g = f ≡ g

abbrev pub Refuses : ChangeFault → Option ChangeFault → Type 0
Refuses NoMemory o = Unit {0}
Refuses f o = o ≡ Some f

abbrev pub Passes : {X : Type 0} → Result X ChangeFault → Option ChangeFault → Type 0
Passes (Ok x) o = o ≡ None
Passes (Err f) o = Refuses f o
