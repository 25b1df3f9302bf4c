-- What changes keep and reach, in other words than their definition.
use Rattle.std.specs.Prelude.{◌≡◌, ◌≢◌, ℕ, ℤ, ◌+ℤ◌, false, List, [], ◌∷◌, Option, Some, None, Ok, ◌⊎◌}
use Rattle.std.specs.Str.{bytes_eq}
use Rattle.mm_update.specs.declared.step.Operator.TheVariants.{Set, Unset, Inc, Push}
use Rattle.mm_bson.specs.Tree.{Tree, int32, int64, document, array, Elements, Values, no_values, item, append_values}
use Rattle.mm_bson.specs.Path.{names, find, value_at_path}
use Rattle.mm_update.specs.Paths.{overlaps_any, id_name}
use Rattle.mm_update.specs.Edit.{Edit, replacement, edits, plan, paths}
use Rattle.mm_update.specs.Edited.{value_by, without}
use Rattle.mm_update.specs.Changed.{changed}
use Rattle.mm_update.specs.Form.{form}

-- a change that is applied leaves the _id as it is
abbrev pub KeepsId : Type 0
KeepsId = (change old new : Elements) → form change ≡ None → changed (plan change) old ≡ Ok new → find id_name new ≡ find id_name old

-- a path that overlaps none of the change's paths keeps its value
abbrev pub KeepsOthers : Type 0
KeepsOthers = (es : List Edit) (old new : Elements) (path : List ℕ) → changed (edits es) old ≡ Ok new → overlaps_any (paths es) path ≡ false → value_at_path path new ≡ value_at_path path old

-- the paths of a change are apart
abbrev pub AreApart : List Edit → Type 0
AreApart [] = Unit {0}
AreApart (e ∷ es) = (overlaps_any (paths es) e.path ≡ false) × AreApart es

abbrev pub IsAmong : Edit → List Edit → Type 0
IsAmong e [] = ⊥
IsAmong e (first ∷ es) = (e ≡ first) ⊎ IsAmong e es

-- the value that $set puts at a path is there in the end
abbrev pub SetsValue : Type 0
SetsValue = (es : List Edit) (e : Edit) (old new : Elements) → AreApart es → IsAmong e es → e.operator ≡ Set → changed (edits es) old ≡ Ok new → value_at_path e.path new ≡ Some e.operand

-- a change of right form has paths that are apart, none of them _id or below it
abbrev pub FormsApart : Type 0
FormsApart = (change : Elements) (es : List Edit) → form change ≡ None → plan change ≡ edits es → AreApart es

-- ---- what each operator makes

-- an edit other than $unset puts at its path what its operator makes of the old value there
abbrev pub MakesValue : Type 0
MakesValue = (es : List Edit) (e : Edit) (old new : Elements) → AreApart es → IsAmong e es → e.operator ≢ Unset → changed (edits es) old ≡ Ok new
    → (t : Tree) × (value_by e.operator e.path e.operand (value_at_path e.path old) ≡ Ok t) × (value_at_path e.path new ≡ Some t)

-- a number of either width
abbrev pub number : Tree → Option ℤ
number (int32 z) = Some z
number (int64 z) = Some z
number _ = None

-- $inc makes the sum of two numbers, as integers
abbrev pub AddsNumbers : Type 0
AddsNumbers = (es : List Edit) (e : Edit) (old new : Elements) (t : Tree) (x y : ℤ) → AreApart es → IsAmong e es → e.operator ≡ Inc → changed (edits es) old ≡ Ok new
    → value_at_path e.path old ≡ Some t → number t ≡ Some x → number e.operand ≡ Some y → (u : Tree) × (value_at_path e.path new ≡ Some u) × (number u ≡ Some (x +ℤ y))

-- $push puts its value behind those of the old array
abbrev pub PushesBehind : Type 0
PushesBehind = (es : List Edit) (e : Edit) (old new : Elements) (vs : Values) → AreApart es → IsAmong e es → e.operator ≡ Push → changed (edits es) old ≡ Ok new
    → value_at_path e.path old ≡ Some (array vs) → value_at_path e.path new ≡ Some (array (append_values vs (item e.operand no_values)))

-- the last name of a path stands once, where the steps before it lead
abbrev pub StandsOnce : List (List ℕ) → Elements → Type 0
StandsOnce [] es = Unit {0}
StandsOnce (name ∷ []) es = find name (without name es) ≡ None
StandsOnce (name ∷ next ∷ others) es = (inner : Elements) → find name es ≡ Some (document inner) → StandsOnce (next ∷ others) inner

-- $unset leaves nothing at its path, and the edits behind it make nothing there
abbrev pub TakesOut : Type 0
TakesOut = (e : Edit) (es : List Edit) (old new : Elements) → AreApart (e ∷ es) → e.operator ≡ Unset → StandsOnce (names e.path) old → changed (edits (e ∷ es)) old ≡ Ok new → value_at_path e.path new ≡ None

-- each name but _id has in the end what it has in the replacement
abbrev pub Replaces : Type 0
Replaces = (change old new : Elements) (name : List ℕ) → changed (replacement change) old ≡ Ok new → bytes_eq id_name name ≡ false → find name new ≡ find name change
