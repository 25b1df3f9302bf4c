-- How much longer an edit makes a document, by how its path meets it.
use Rattle.std.proofs.Common.{◌≡◌, ℕ, ◌+◌, Bool, true, false, cond, List, [], ◌∷◌, length, drop, Option, Some, None, Ok, Err, refl, ap, arith}
use Rattle.std.specs.Str.{bytes_eq}
use Rattle.mm_bson.specs.Tree.{Tree, document, Elements, no_elements, element}
use Rattle.mm_bson.specs.Path.{names, find}
use Rattle.mm_bson.specs.Spelling.{elements_spelling, element_len}
use Rattle.mm_bson.proofs.Building.{framed_len, spelling_len}
use Rattle.mm_update.specs.declared.fault.ChangeFault.{ChangeFault}
use Rattle.mm_update.specs.declared.fault.ChangeFault.TheVariants.{BadChange, ChangesId, NotNumber, IncOverflow, TooLong, TooDeep, NoMemory}
use Rattle.mm_update.specs.Edited.{Outcome, and_then, mapped, with_value, without, opened, put, inside_only, removed, Fails}
use Rattle.mm_update.specs.Meeting.{Meeting, absent, blocked, present, deeper, meet_onward, meet, steps_len, doc_len, tree_len}
use Rattle.mm_update.proofs.Steps.{some_step}
use Rattle.mm_update.proofs.Drafts.{find-none-with_value, find-none-without}
use Rattle.mm_update.proofs.Kept.{same_name}
use Rattle.mm_update.proofs.Lengths.{first_len, elements_len-append}

abbrev inner : Elements → ℕ
inner es = length (elements_spelling es)

document_len : (es : Elements) → tree_len (document es) ≡ inner es + 5
document_len es = framed_len (elements_spelling es)

-- ---- one field

with_value_len : (n : List ℕ) (u t : Tree) (es : Elements) → find n es ≡ Some t → inner (with_value n u es) + tree_len t ≡ inner es + tree_len u
with_value_len n u t no_elements found = absurd cc
with_value_len n u t (element k v es) found = by (bytes_eq k n) found (λ later. with_value_len n u t es later)
  where
    by : (b : Bool) → cond b (Some v) (find n es) ≡ Some t → (find n es ≡ Some t → inner (with_value n u es) + tree_len t ≡ inner es + tree_len u)
        → inner (cond b (element k u es) (element k v (with_value n u es))) + tree_len t ≡ inner (element k v es) + tree_len u
    by true here later =
        let same : v ≡ t = cc in
        omega (arith, first_len k u es, first_len k v es, ap tree_len same)
    by false there later = omega (arith, first_len k v (with_value n u es), first_len k v es, later there)

with_value_more : (n : List ℕ) (u : Tree) (es : Elements) → find n es ≡ None → inner (with_value n u es) ≡ inner es + element_len n u
with_value_more n u es none = omega (arith, ap inner (find-none-with_value n u es none), elements_len-append es (element n u no_elements), first_len n u no_elements)

without_len : (n : List ℕ) (t : Tree) (es : Elements) → find n es ≡ Some t → inner (without n es) + element_len n t ≡ inner es
without_len n t no_elements found = absurd cc
without_len n t (element k v es) found = by (bytes_eq k n) refl found (λ later. without_len n t es later)
  where
    by : (b : Bool) → bytes_eq k n ≡ b → cond b (Some v) (find n es) ≡ Some t → (find n es ≡ Some t → inner (without n es) + element_len n t ≡ inner es) → inner (cond b es (element k v (without n es))) + element_len n t ≡ inner (element k v es)
    by true x here later =
        let same : v ≡ t = cc in
        omega (arith, first_len k v es, ap tree_len same, ap length (same_name k n x))
    by false x there later = omega (arith, first_len k v (without n es), first_len k v es, later there)

-- ---- a value that is put

abbrev Grown : Outcome Tree → Outcome Elements → (Elements → Tree → Type 0) → Type 0
Grown (Ok u) o more = (new : Elements) × (o ≡ Ok new) × more new u
Grown (Err f) o more = o ≡ Err f

abbrev PutAs : List ℕ → List (List ℕ) → (Option Tree → Outcome Tree) → Elements → Meeting → Outcome Elements → Type 0
PutAs path ns value es (absent k) o = Grown (value None) o (λ new u. inner new + 5 ≡ inner es + steps_len (drop k ns) + tree_len u)
PutAs path ns value es blocked o = o ≡ Err (BadChange path)
PutAs path ns value es (present n t) o = Grown (value (Some t)) o (λ new u. inner new + tree_len t ≡ inner es + tree_len u)

last_put : (path name : List ℕ) (value : Option Tree → Outcome Tree) (es : Elements) (o : Option Tree) → find name es ≡ o
    → PutAs path (name ∷ []) value es (meet_onward name [] (meet []) o) (mapped (λ t. with_value name t es) (value o))
last_put path name value es None none = by (value None)
  where
    by : (r : Outcome Tree) → Grown r (mapped (λ t. with_value name t es) r) (λ new u. inner new + 5 ≡ inner es + steps_len (name ∷ []) + tree_len u)
    by (Ok u) = (with_value name u es, refl, omega (arith, with_value_more name u es none))
    by (Err f) = refl
last_put path name value es (Some t) found = by (value (Some t))
  where
    by : (r : Outcome Tree) → Grown r (mapped (λ t. with_value name t es) r) (λ new u. inner new + tree_len t ≡ inner es + tree_len u)
    by (Ok u) = (with_value name u es, refl, with_value_len name u t es found)
    by (Err f) = refl

made_put : (name : List ℕ) (ns : List (List ℕ)) (es : Elements) (r : Outcome Tree) (o : Outcome Elements) → find name es ≡ None → Grown r o (λ new u. inner new + 5 ≡ inner no_elements + steps_len ns + tree_len u)
    → Grown r (mapped (λ t. with_value name t es) (mapped document o)) (λ new u. inner new + 5 ≡ inner es + steps_len (name ∷ ns) + tree_len u)
made_put name ns es (Ok u) o none g = rw g.1 (with_value name (document g.0) es, refl, omega (arith, with_value_more name (document g.0) es none, document_len g.0, g.2))
made_put name ns es (Err f) o none g = rw g refl

deeper_put : (path name : List ℕ) (value : Option Tree → Outcome Tree) (ns : List (List ℕ)) (es inside : Elements) (m : Meeting) (o : Outcome Elements) → find name es ≡ Some (document inside) → PutAs path ns value inside m o
    → PutAs path (name ∷ ns) value es (deeper m) (mapped (λ t. with_value name t es) (mapped document o))
deeper_put path name value ns es inside (absent k) o found g = by (value None) g
  where
    by : (r : Outcome Tree) → Grown r o (λ new u. inner new + 5 ≡ inner inside + steps_len (drop k ns) + tree_len u)
        → Grown r (mapped (λ t. with_value name t es) (mapped document o)) (λ new u. inner new + 5 ≡ inner es + steps_len (drop k ns) + tree_len u)
    by (Ok u) g = rw g.1 (with_value name (document g.0) es, refl, omega (arith, with_value_len name (document g.0) (document inside) es found, document_len g.0, document_len inside, g.2))
    by (Err f) g = rw g refl
deeper_put path name value ns es inside blocked o found g = rw g refl
deeper_put path name value ns es inside (present n t) o found g = by (value (Some t)) g
  where
    by : (r : Outcome Tree) → Grown r o (λ new u. inner new + tree_len t ≡ inner inside + tree_len u)
        → Grown r (mapped (λ t. with_value name t es) (mapped document o)) (λ new u. inner new + tree_len t ≡ inner es + tree_len u)
    by (Ok u) g = rw g.1 (with_value name (document g.0) es, refl, omega (arith, with_value_len name (document g.0) (document inside) es found, document_len g.0, document_len inside, g.2))
    by (Err f) g = rw g refl

put_sized : (path : List ℕ) (value : Option Tree → Outcome Tree) (name : List ℕ) (ns : List (List ℕ)) (es : Elements) → PutAs path (name ∷ ns) value es (meet (name ∷ ns) es) (put path value (name ∷ ns) es)
put_sized path value name [] es = last_put path name value es (find name es) refl
put_sized path value name (m ∷ ms) es = by (find name es) refl (λ inside. put_sized path value m ms inside)
  where
    by : (o : Option Tree) → find name es ≡ o → ((inside : Elements) → PutAs path (m ∷ ms) value inside (meet (m ∷ ms) inside) (put path value (m ∷ ms) inside))
        → PutAs path (name ∷ m ∷ ms) value es (meet_onward name (m ∷ ms) (meet (m ∷ ms)) o) (mapped (λ t. with_value name t es) (mapped document (and_then (put path value (m ∷ ms)) (opened path o))))
    by None none later = made_put name (m ∷ ms) es (value None) (put path value (m ∷ ms) no_elements) none (later no_elements)
    by (Some (document inside)) found later = deeper_put path name value (m ∷ ms) es inside (meet (m ∷ ms) inside) (put path value (m ∷ ms) inside) found (later inside)
    by (Some _) found later = refl

grown_fails : (f : ChangeFault) (r : Outcome Tree) (o : Outcome Elements) (more : Elements → Tree → Type 0) → Grown r o more → Fails f r → Fails f o
grown_fails NoMemory r o more g h = tt
grown_fails (BadChange n) (Ok u) o more g h = absurd cc
grown_fails (BadChange n) (Err e) o more g h = cc
grown_fails ChangesId (Ok u) o more g h = absurd cc
grown_fails ChangesId (Err e) o more g h = cc
grown_fails (NotNumber n) (Ok u) o more g h = absurd cc
grown_fails (NotNumber n) (Err e) o more g h = cc
grown_fails (IncOverflow n) (Ok u) o more g h = absurd cc
grown_fails (IncOverflow n) (Err e) o more g h = cc
grown_fails (TooLong n) (Ok u) o more g h = absurd cc
grown_fails (TooLong n) (Err e) o more g h = cc
grown_fails TooDeep (Ok u) o more g h = absurd cc
grown_fails TooDeep (Err e) o more g h = cc

-- the outcome of a value that is put at a path, by each way to meet the document
module _ (path p : List ℕ) (value : Option Tree → Outcome Tree) (es : Elements) where
  whole_put : PutAs path (names p) value es (meet (names p) es) (put path value (names p) es)
  whole_put =
      let some = some_step p in
      rw some.2 (put_sized path value some.0 some.1 es)

  as_met : (m : Meeting) → meet (names p) es ≡ m → PutAs path (names p) value es m (put path value (names p) es)
  as_met m met = rw (← met) whole_put

  pub blocked_put : meet (names p) es ≡ blocked → put path value (names p) es ≡ Err (BadChange path)
  blocked_put met = as_met blocked met

  pub absent_fails : (k : ℕ) (f : ChangeFault) → meet (names p) es ≡ absent k → Fails f (value None) → Fails f (put path value (names p) es)
  absent_fails k f met h = grown_fails f (value None) (put path value (names p) es) (λ new u. inner new + 5 ≡ inner es + steps_len (drop k (names p)) + tree_len u) (as_met (absent k) met) h

  pub present_fails : (n : List ℕ) (t : Tree) (f : ChangeFault) → meet (names p) es ≡ present n t → Fails f (value (Some t)) → Fails f (put path value (names p) es)
  present_fails n t f met h = grown_fails f (value (Some t)) (put path value (names p) es) (λ new u. inner new + tree_len t ≡ inner es + tree_len u) (as_met (present n t) met) h

  pub absent_len : (k : ℕ) (u : Tree) → meet (names p) es ≡ absent k → value None ≡ Ok u
      → (new : Elements) × (put path value (names p) es ≡ Ok new) × (doc_len new + 5 ≡ doc_len es + steps_len (drop k (names p)) + tree_len u)
  absent_len k u met is = by (value None) is (as_met (absent k) met)
    where
      by : (r : Outcome Tree) → r ≡ Ok u → Grown r (put path value (names p) es) (λ new v. inner new + 5 ≡ inner es + steps_len (drop k (names p)) + tree_len v)
          → (new : Elements) × (put path value (names p) es ≡ Ok new) × (doc_len new + 5 ≡ doc_len es + steps_len (drop k (names p)) + tree_len u)
      by (Err f) is g = absurd cc
      by (Ok v) is g =
          let same : v ≡ u = cc in
          (g.0, g.1, omega (arith, spelling_len g.0, spelling_len es, g.2, ap tree_len same))

  pub present_len : (n : List ℕ) (t u : Tree) → meet (names p) es ≡ present n t → value (Some t) ≡ Ok u
      → (new : Elements) × (put path value (names p) es ≡ Ok new) × (doc_len new + tree_len t ≡ doc_len es + tree_len u)
  present_len n t u met is = by (value (Some t)) is (as_met (present n t) met)
    where
      by : (r : Outcome Tree) → r ≡ Ok u → Grown r (put path value (names p) es) (λ new v. inner new + tree_len t ≡ inner es + tree_len v)
          → (new : Elements) × (put path value (names p) es ≡ Ok new) × (doc_len new + tree_len t ≡ doc_len es + tree_len u)
      by (Err f) is g = absurd cc
      by (Ok v) is g =
          let same : v ≡ u = cc in
          (g.0, g.1, omega (arith, spelling_len g.0, spelling_len es, g.2, ap tree_len same))

-- ---- a field that is taken out

abbrev RemovedAs : Elements → Meeting → Elements → Type 0
RemovedAs es (absent k) new = inner new ≡ inner es
RemovedAs es blocked new = inner new ≡ inner es
RemovedAs es (present n t) new = inner new + element_len n t ≡ inner es

last_removed : (name : List ℕ) (es : Elements) (o : Option Tree) → find name es ≡ o → RemovedAs es (meet_onward name [] (meet []) o) (without name es)
last_removed name es None none = ap inner (find-none-without name es none)
last_removed name es (Some t) found = without_len name t es found

deeper_removed : (name : List ℕ) (es inside new : Elements) (m : Meeting) → find name es ≡ Some (document inside) → RemovedAs inside m new → RemovedAs es (deeper m) (with_value name (document new) es)
deeper_removed name es inside new (absent k) found h = omega (arith, with_value_len name (document new) (document inside) es found, document_len new, document_len inside, h)
deeper_removed name es inside new blocked found h = omega (arith, with_value_len name (document new) (document inside) es found, document_len new, document_len inside, h)
deeper_removed name es inside new (present n t) found h = omega (arith, with_value_len name (document new) (document inside) es found, document_len new, document_len inside, h)

removed_sized : (name : List ℕ) (ns : List (List ℕ)) (es : Elements) → RemovedAs es (meet (name ∷ ns) es) (removed (name ∷ ns) es)
removed_sized name [] es = last_removed name es (find name es) refl
removed_sized name (m ∷ ms) es = by (find name es) refl (λ inside. removed_sized m ms inside)
  where
    by : (o : Option Tree) → find name es ≡ o → ((inside : Elements) → RemovedAs inside (meet (m ∷ ms) inside) (removed (m ∷ ms) inside))
        → RemovedAs es (meet_onward name (m ∷ ms) (meet (m ∷ ms)) o) (inside_only name (removed (m ∷ ms)) es o)
    by None none later = refl
    by (Some (document inside)) found later = deeper_removed name es inside (removed (m ∷ ms) inside) (meet (m ∷ ms) inside) found (later inside)
    by (Some _) found later = refl

module _ (p : List ℕ) (es : Elements) where
  removed_met : (m : Meeting) → meet (names p) es ≡ m → RemovedAs es m (removed (names p) es)
  removed_met m met =
      let some = some_step p in
      rw (← met, some.2) (removed_sized some.0 some.1 es)

  pub absent_removed : (k : ℕ) → meet (names p) es ≡ absent k → doc_len (removed (names p) es) ≡ doc_len es
  absent_removed k met = omega (arith, spelling_len (removed (names p) es), spelling_len es, removed_met (absent k) met)

  pub blocked_removed : meet (names p) es ≡ blocked → doc_len (removed (names p) es) ≡ doc_len es
  blocked_removed met = omega (arith, spelling_len (removed (names p) es), spelling_len es, removed_met blocked met)

  pub present_removed : (n : List ℕ) (t : Tree) → meet (names p) es ≡ present n t → doc_len (removed (names p) es) + (length n + 2 + tree_len t) ≡ doc_len es
  present_removed n t met = omega (arith, spelling_len (removed (names p) es), spelling_len es, removed_met (present n t) met)
