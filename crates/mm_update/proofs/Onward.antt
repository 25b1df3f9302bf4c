-- Where a step is not the last, and what a fault on the way gives.
use Rattle.std.proofs.Common.{◌≡◌, ℕ, List, Option, Some, Err, refl, ap, ◌∙◌}
use Rattle.mm_bson.specs.Tree.{Tree, min_key, null, int32, int64, string, document, array, binary, object_id, boolean, date, timestamp, max_key, Elements}
use Rattle.mm_bson.specs.Path.{names, find}
use Rattle.mm_update.specs.declared.fault.ChangeFault.{ChangeFault}
use Rattle.mm_update.specs.declared.fault.ChangeFault.TheVariants.{BadChange, ChangesId, NotNumber, IncOverflow, TooLong, TooDeep, NoMemory}
use Rattle.mm_update.specs.Edited.{Outcome, and_then, mapped, with_value, opened, onward, put, inside_only, taken, Fails}
use Rattle.mm_update.specs.Form.{IsFault}
use Rattle.mm_update.specs.Drafted.{inside_document}
use Rattle.std.specs.Borrow.{Bor}
use Rattle.mm_update.specs.Paths.{behind}
use Rattle.mm_update.proofs.Steps.{some_step}
use Rattle.mm_update.proofs.Fields.{with_value-back}

-- a fault on the way is the fault of the whole
pub Fails-mapped : {X Y : Type 0} (g : X → Y) (f : ChangeFault) (o : Outcome X) → Fails f o → Fails f (mapped g o)
Fails-mapped g NoMemory o h = tt
Fails-mapped g (BadChange n) o h = rw h refl
Fails-mapped g ChangesId o h = rw h refl
Fails-mapped g (NotNumber n) o h = rw h refl
Fails-mapped g (IncOverflow n) o h = rw h refl
Fails-mapped g (TooLong n) o h = rw h refl
Fails-mapped g TooDeep o h = rw h refl

pub Fails-then : {X Y : Type 0} (g : X → Outcome Y) (f : ChangeFault) (o : Outcome X) → Fails f o → Fails f (and_then g o)
Fails-then g NoMemory o h = tt
Fails-then g (BadChange n) o h = rw h refl
Fails-then g ChangesId o h = rw h refl
Fails-then g (NotNumber n) o h = rw h refl
Fails-then g (IncOverflow n) o h = rw h refl
Fails-then g (TooLong n) o h = rw h refl
Fails-then g TooDeep o h = rw h refl

pub Fails-along : {X : Type 0} (f : ChangeFault) (o p : Outcome X) → o ≡ p → Fails f o → Fails f p
Fails-along f o p e h = rw (← e) h

pub onward_inside : (path rest : List ℕ) (value : Option Tree → Outcome Tree) (inside : Elements → Outcome Elements) (o : Option Tree)
    → onward path (names rest) value inside o ≡ mapped document (and_then inside (opened path o))
onward_inside path rest value inside o =
    let some = some_step rest in
    rw some.2 refl

pub onward_behind : (path : List ℕ) (o : Option (Bor (List ℕ))) (rest : List ℕ) (value : Option Tree → Outcome Tree) (old : Option Tree) → behind o ≡ names rest
    → onward path (behind o) value (put path value (behind o)) old ≡ mapped document (and_then (put path value (names rest)) (opened path old))
onward_behind path o rest value old is =
    ap (λ (ns : List (List ℕ)). onward path ns value (put path value ns) old) is ∙ onward_inside path rest value (put path value (names rest)) old

pub taken_inside : (rest name : List ℕ) (inside : Elements → Elements) (es : Elements) → taken (names rest) name inside es ≡ inside_only name inside es (find name es)
taken_inside rest name inside es =
    let some = some_step rest in
    rw some.2 refl

-- what becomes of the field that a step leads to, where only a document changes
pub inside_put : (name : List ℕ) (inside : Elements → Elements) (es : Elements) (t : Tree) → find name es ≡ Some t → with_value name (inside_document inside t) es ≡ inside_only name inside es (find name es)
inside_put name inside es t found = rw found (by t found)
  where
    by : (t : Tree) → find name es ≡ Some t → with_value name (inside_document inside t) es ≡ inside_only name inside es (Some t)
    by (document inner) found = refl
    by min_key found = with_value-back name min_key es found
    by null found = with_value-back name null es found
    by (int32 z) found = with_value-back name (int32 z) es found
    by (int64 z) found = with_value-back name (int64 z) es found
    by (string s) found = with_value-back name (string s) es found
    by (array vs) found = with_value-back name (array vs) es found
    by (binary k bytes) found = with_value-back name (binary k bytes) es found
    by (object_id bytes) found = with_value-back name (object_id bytes) es found
    by (boolean b) found = with_value-back name (boolean b) es found
    by (date z) found = with_value-back name (date z) es found
    by (timestamp s i) found = with_value-back name (timestamp s i) es found
    by max_key found = with_value-back name max_key es found

-- a fault that a call answers for this one
pub fault_fails : {X : Type 0} (f g : ChangeFault) (o : Outcome X) → IsFault f g → o ≡ Err g → Fails f o
fault_fails NoMemory g o h e = tt
fault_fails (BadChange n) g o h e = cc
fault_fails ChangesId g o h e = cc
fault_fails (NotNumber n) g o h e = cc
fault_fails (IncOverflow n) g o h e = cc
fault_fails (TooLong n) g o h e = cc
fault_fails TooDeep g o h e = cc
