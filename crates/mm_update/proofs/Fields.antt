-- One field of a document, and the names of all.
use Rattle.std.proofs.Common.{◌≡◌, ℕ, Bool, true, false, cond, List, Some, refl, ap}
use Rattle.std.specs.Str.{bytes_eq}
use Rattle.std.proofs.lemmas.Slice.Eq.{bytes_eq-Decides}
use Rattle.mm_bson.specs.Tree.{Tree, Elements, no_elements, element, append}
use Rattle.mm_bson.specs.Path.{find}
use Rattle.mm_bson.specs.Spelling.{HasNoZero, AreElements}
use Rattle.mm_bson.proofs.Loop.{append_assoc}
use Rattle.mm_update.specs.Paths.{id_name}
use Rattle.mm_update.specs.Changed.{other_fields}
use Rattle.mm_update.specs.Edited.{with_value, without}
use Rattle.mm_update.specs.Drafted.{AreNames}

pub bytes_same : (name : List ℕ) → bytes_eq name name ≡ true
bytes_same name = (bytes_eq-Decides name name).1 refl

-- of two values put at a name the later one is there
pub with_value-twice : (name : List ℕ) (t u : Tree) (es : Elements) → with_value name t (with_value name u es) ≡ with_value name t es
with_value-twice name t u no_elements = rw (bytes_same name) refl
with_value-twice name t u (element n v es) = by (bytes_eq n name) refl (with_value-twice name t u es)
  where
    by : (b : Bool) → bytes_eq n name ≡ b → with_value name t (with_value name u es) ≡ with_value name t es
        → with_value name t (cond b (element n u es) (element n v (with_value name u es))) ≡ cond b (element n t es) (element n v (with_value name t es))
    by true e later = rw e refl
    by false e later = rw e (ap (element n v) later)

-- a value that is put back
pub with_value-back : (name : List ℕ) (t : Tree) (es : Elements) → find name es ≡ Some t → with_value name t es ≡ es
with_value-back name t no_elements found = absurd cc
with_value-back name t (element n v es) found = by (bytes_eq n name) found (λ later. with_value-back name t es later)
  where
    by : (b : Bool) → cond b (Some v) (find name es) ≡ Some t → (find name es ≡ Some t → with_value name t es ≡ es) → cond b (element n t es) (element n v (with_value name t es)) ≡ element n v es
    by true here later =
        let same : v ≡ t = cc in
        rw same refl
    by false there later = ap (element n v) (later there)

pub find-with_value : (name : List ℕ) (t : Tree) (es : Elements) → find name (with_value name t es) ≡ Some t
find-with_value name t no_elements = rw (bytes_same name) refl
find-with_value name t (element n v es) = by (bytes_eq n name) refl (find-with_value name t es)
  where
    by : (b : Bool) → bytes_eq n name ≡ b → find name (with_value name t es) ≡ Some t → find name (cond b (element n t es) (element n v (with_value name t es))) ≡ Some t
    by true e later = rw e refl
    by false e later = rw e later

-- ---- names

pub AreNames-push : (es : Elements) (name : List ℕ) (t : Tree) → AreNames es → HasNoZero name → AreNames (append es (element name t no_elements))
AreNames-push no_elements name t h n = (n, tt)
AreNames-push (element m u es) name t h n = (h.0, AreNames-push es name t h.1 n)

pub AreNames-with_value : (name : List ℕ) (t : Tree) (es : Elements) → AreNames es → HasNoZero name → AreNames (with_value name t es)
AreNames-with_value name t no_elements h n = (n, tt)
AreNames-with_value name t (element m u es) h n = by (bytes_eq m name) (AreNames-with_value name t es h.1 n)
  where
    by : (b : Bool) → AreNames (with_value name t es) → AreNames (cond b (element m t es) (element m u (with_value name t es)))
    by true later = h
    by false later = (h.0, later)

pub AreNames-without : (name : List ℕ) (es : Elements) → AreNames es → AreNames (without name es)
AreNames-without name no_elements h = tt
AreNames-without name (element m u es) h = by (bytes_eq m name) (AreNames-without name es h.1)
  where
    by : (b : Bool) → AreNames (without name es) → AreNames (cond b es (element m u (without name es)))
    by true later = h.1
    by false later = (h.0, later)

pub AreNames-built : (es : Elements) → AreElements es → AreNames es
AreNames-built no_elements h = tt
AreNames-built (element name t es) h = (h.0.1, AreNames-built es h.2)

-- one more of the fields but _id
pub others_on : (draft new all : Elements) (name : List ℕ) (t : Tree) (rest : Elements) → bytes_eq name id_name ≡ false → append draft (other_fields (element name t rest)) ≡ all → new ≡ append draft (element name t no_elements)
    → append new (other_fields rest) ≡ all
others_on draft new all name t rest other told is = rw (is, append_assoc draft (element name t no_elements) (other_fields rest)) (rw other at told)
