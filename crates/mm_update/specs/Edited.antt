-- What an edit makes of a document (MongoDB 2.6, update operators $set, $unset, $inc and $push).
use Rattle.std.specs.Prelude.{◌≡◌, ℕ, ◌^◌, ℤ, pos, negsuc, ◌+ℤ◌, Bool, List, [], ◌∷◌, Option, Some, None, Result, Ok, Err, nat_lt, if◌then◌else◌}
use Rattle.std.specs.Str.{bytes_eq}
use Rattle.mm_update.specs.declared.fault.ChangeFault.{ChangeFault}
use Rattle.mm_update.specs.declared.fault.ChangeFault.TheVariants.{BadChange, NotNumber, IncOverflow, NoMemory}
use Rattle.mm_update.specs.declared.step.Operator.{Operator}
use Rattle.mm_update.specs.declared.step.Operator.TheVariants.{Unset, Inc, Push}
use Rattle.mm_bson.specs.Tree.{Tree, int32, int64, document, array, Elements, no_elements, element, no_values, item, append_values}
use Rattle.mm_bson.specs.Path.{names, find}
use Rattle.mm_update.specs.Edit.{Edit}

abbrev pub Outcome : Type 0 → Type 0
Outcome X = Result X ChangeFault

abbrev pub and_then : {X Y : Type 0} → (X → Outcome Y) → Outcome X → Outcome Y
and_then f (Ok x) = f x
and_then f (Err e) = Err e

abbrev pub mapped : {X Y : Type 0} → (X → Y) → Outcome X → Outcome Y
mapped f (Ok x) = Ok (f x)
mapped f (Err e) = Err e

-- ---- one field of a document

-- the first field of the name gets this value. Where there is none, a new field behind the others does
abbrev pub with_value : List ℕ → Tree → Elements → Elements
with_value name t no_elements = element name t no_elements
with_value name t (element n u es) = if bytes_eq n name then element n t es else element n u (with_value name t es)

-- without the first field of the name
abbrev pub without : List ℕ → Elements → Elements
without name no_elements = no_elements
without name (element n u es) = if bytes_eq n name then es else element n u (without name es)

-- ---- a path

-- the document that a step before the last leads to: a missing one is made, and another value is refused by the path
abbrev pub opened : List ℕ → Option Tree → Outcome Elements
opened path None = Ok no_elements
opened path (Some (document es)) = Ok es
opened path (Some _) = Err (BadChange path)

-- what becomes of the value that a step leads to, where these steps are behind it
abbrev pub onward : List ℕ → List (List ℕ) → (Option Tree → Outcome Tree) → (Elements → Outcome Elements) → Option Tree → Outcome Tree
onward path [] value inside o = value o
onward path (next ∷ others) value inside o = mapped document (and_then inside (opened path o))

-- the value at the steps is made anew from the one that is there
abbrev pub put : List ℕ → (Option Tree → Outcome Tree) → List (List ℕ) → Elements → Outcome Elements
put path value [] es = Ok es
put path value (name ∷ others) es = mapped (λ t. with_value name t es) (onward path others value (put path value others) (find name es))

-- the field at the steps is taken out where it is there
abbrev pub inside_only : List ℕ → (Elements → Elements) → Elements → Option Tree → Elements
inside_only name inside es (Some (document inner)) = with_value name (document (inside inner)) es
inside_only name inside es _ = es

abbrev pub taken : List (List ℕ) → List ℕ → (Elements → Elements) → Elements → Elements
taken [] name inside es = without name es
taken (next ∷ others) name inside es = inside_only name inside es (find name es)

abbrev pub removed : List (List ℕ) → Elements → Elements
removed [] es = es
removed (name ∷ others) es = taken others name (removed others) es

-- ---- values

abbrev pub fits_32 : ℤ → Bool
fits_32 (pos n) = nat_lt n (2 ^ 31)
fits_32 (negsuc n) = nat_lt n (2 ^ 31)

abbrev pub fits_64 : ℤ → Bool
fits_64 (pos n) = nat_lt n (2 ^ 63)
fits_64 (negsuc n) = nat_lt n (2 ^ 63)

abbrev pub wide : List ℕ → ℤ → Outcome Tree
wide path z = if fits_64 z then Ok (int64 z) else Err (IncOverflow path)

-- the sum is an int64 where one of the two is, or where it leaves the range of int32
abbrev pub sum : List ℕ → Tree → Tree → Outcome Tree
sum path (int32 x) (int32 y) = if fits_32 (x +ℤ y) then Ok (int32 (x +ℤ y)) else wide path (x +ℤ y)
sum path (int32 x) (int64 y) = wide path (x +ℤ y)
sum path (int64 x) (int32 y) = wide path (x +ℤ y)
sum path (int64 x) (int64 y) = wide path (x +ℤ y)
sum path t u = Err (NotNumber path)

abbrev pub pushed : List ℕ → Tree → Tree → Outcome Tree
pushed path (array vs) t = Ok (array (append_values vs (item t no_values)))
pushed path _ t = Err (BadChange path)

-- the value that an operator makes of the one that is there
abbrev pub inc_value : List ℕ → Tree → Option Tree → Outcome Tree
inc_value path t None = Ok t
inc_value path t (Some u) = sum path u t

abbrev pub push_value : List ℕ → Tree → Option Tree → Outcome Tree
push_value path t None = Ok (array (item t no_values))
push_value path t (Some u) = pushed path u t

abbrev pub value_by : Operator → List ℕ → Tree → Option Tree → Outcome Tree
value_by Inc path t o = inc_value path t o
value_by Push path t o = push_value path t o
value_by _ path t o = Ok t

-- ---- edits

abbrev pub edit_by : Operator → List ℕ → Tree → Elements → Outcome Elements
edit_by Unset path t es = Ok (removed (names path) es)
edit_by operator path t es = put path (value_by operator path t) (names path) es

abbrev pub edited : Edit → Elements → Outcome Elements
edited e es = edit_by e.operator e.path e.operand es

-- one after the other; the first that is refused decides
abbrev pub all_edited : List Edit → Elements → Outcome Elements
all_edited [] es = Ok es
all_edited (e ∷ others) es = and_then (all_edited others) (edited e es)

-- what a call answers where this is the outcome: want of memory is free
abbrev pub Fails : {Y : Type 0} → ChangeFault → Outcome Y → Type 0
Fails NoMemory outcome = Unit {0}
Fails f outcome = outcome ≡ Err f

abbrev pub Gives : {X Y : Type 0} → (X → Y) → Outcome X → Outcome Y → Type 0
Gives view (Ok x) outcome = outcome ≡ Ok (view x)
Gives view (Err f) outcome = Fails f outcome
