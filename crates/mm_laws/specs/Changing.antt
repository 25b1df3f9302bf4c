-- What a change by one operator makes, beside the laws of mm_update: of what isn't there, and of a number's width.
use Rattle.std.specs.Prelude.{◌≡◌, ℕ, ℤ, ◌+ℤ◌, true, false, List, None, Some, Ok, codes}
use Rattle.mm_bson.specs.Tree.{Tree, int32, int64, document, array, Elements, no_elements, element, no_values, item}
use Rattle.mm_bson.specs.Path.{value_at_path}
use Rattle.mm_update.specs.Edit.{plan}
use Rattle.mm_update.specs.Edited.{fits_32}
use Rattle.mm_update.specs.Laws.{number}
use Rattle.mm_update.specs.Changed.{changed}

-- {operator: {path: value}}
abbrev pub change_by : List ℕ → List ℕ → Tree → Elements
change_by operator path t = element operator (document (element path t no_elements)) no_elements

-- such a change makes one document of the other
abbrev pub Makes : List ℕ → List ℕ → Tree → Elements → Elements → Type 0
Makes operator path t old new = changed (plan (change_by operator path t)) old ≡ Ok new

-- ---- where the path leads to nothing

-- $inc puts its number there
abbrev pub IncPuts : Type 0
IncPuts = (path : List ℕ) (t : Tree) (old new : Elements) → Makes (codes "$inc") path t old new → value_at_path path old ≡ None → value_at_path path new ≡ Some t

-- $push makes an array of its value alone
abbrev pub PushMakesArray : Type 0
PushMakesArray = (path : List ℕ) (t : Tree) (old new : Elements) → Makes (codes "$push") path t old new → value_at_path path old ≡ None → value_at_path path new ≡ Some (array (item t no_values))

-- $unset leaves the whole document as it is
abbrev pub UnsetLeaves : Type 0
UnsetLeaves = (path : List ℕ) (t : Tree) (old new : Elements) → Makes (codes "$unset") path t old new → value_at_path path old ≡ None → new ≡ old

-- ---- the width of a sum

-- of two int32 it is an int32 where that holds it, and an int64 else
abbrev pub NarrowStays : Type 0
NarrowStays = (path : List ℕ) (x y : ℤ) (old new : Elements) → Makes (codes "$inc") path (int32 y) old new → value_at_path path old ≡ Some (int32 x) → fits_32 (x +ℤ y) ≡ true
    → value_at_path path new ≡ Some (int32 (x +ℤ y))

abbrev pub NarrowWidens : Type 0
NarrowWidens = (path : List ℕ) (x y : ℤ) (old new : Elements) → Makes (codes "$inc") path (int32 y) old new → value_at_path path old ≡ Some (int32 x) → fits_32 (x +ℤ y) ≡ false
    → value_at_path path new ≡ Some (int64 (x +ℤ y))

-- where one of the two is an int64, it is one, however small
abbrev pub WideStays : Type 0
WideStays = (path : List ℕ) (t : Tree) (x y : ℤ) (old new : Elements) → Makes (codes "$inc") path t old new → value_at_path path old ≡ Some (int64 x) → number t ≡ Some y
    → value_at_path path new ≡ Some (int64 (x +ℤ y))

abbrev pub OperandWidens : Type 0
OperandWidens = (path : List ℕ) (u : Tree) (x y : ℤ) (old new : Elements) → Makes (codes "$inc") path (int64 y) old new → value_at_path path old ≡ Some u → number u ≡ Some x
    → value_at_path path new ≡ Some (int64 (x +ℤ y))
