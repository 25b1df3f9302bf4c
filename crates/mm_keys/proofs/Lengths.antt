-- How long keys are, and the values in them.
use Rattle.std.proofs.Common.{◌≡◌, ℕ, suc, ◌+◌, ◌-◌, ◌≤◌, Bool, true, false, cond, List, [], ◌∷◌, ◌++◌, length, Option, Some, None, inl, inr, refl, sym, ap, subst, ◌∙◌, arith}
use Rattle.std.specs.Prelude.{option_and_then, IsTrue, ◌↔◌}
use Rattle.std.specs.Str.{bytes_eq}
use Rattle.std.proofs.lemmas.List.{length-append}
use Rattle.mm_bson.specs.declared.doc.Element.{Element}
use Rattle.mm_bson.specs.View.{elements_of}
use Rattle.mm_bson.specs.Tree.{Tree, document, Elements, no_elements, element, append}
use Rattle.mm_bson.specs.Path.{names, find, onward, value_at, value_at_path}
use Rattle.mm_bson.specs.Spelling.{spelling, framed, elements_spelling, value_spelling, element_len}
use Rattle.mm_bson.proofs.Loop.{append_assoc}
use Rattle.mm_bson.proofs.Building.{spelling_len}
use Rattle.mm_keys.specs.Specification.{fields}
use Rattle.mm_keys.specs.Key.{keyed, key, key_len, IsArray, HasArray}

-- ---- values

first_len : (name : List ℕ) (t : Tree) (es : Elements) → length (elements_spelling (element name t es)) ≡ element_len name t + length (elements_spelling es)
first_len name t es = omega (arith, length-append (name ++ 0 ∷ []) (value_spelling t ++ elements_spelling es), length-append name (0 ∷ []), length-append (value_spelling t) (elements_spelling es))

find-within : (name : List ℕ) (es : Elements) (t : Tree) → find name es ≡ Some t → length (value_spelling t) ≤ length (elements_spelling es)
find-within name no_elements t found = absurd cc
find-within name (element n u es) t found = by (bytes_eq n name) found (λ later. find-within name es t later)
  where
    by : (b : Bool) → cond b (Some u) (find name es) ≡ Some t → (find name es ≡ Some t → length (value_spelling t) ≤ length (elements_spelling es))
        → length (value_spelling t) ≤ length (elements_spelling (element n u es))
    by true here later =
        let same : u ≡ t = cc in
        omega (arith, ap (λ v. length (value_spelling v)) same, first_len n u es)
    by false there later = omega (arith, later there, first_len n u es)

inner_len : (inner : Elements) → length (elements_spelling inner) ≤ length (value_spelling (document inner))
unfolding framed
inner_len inner = omega (arith, length-append (elements_spelling inner) (0 ∷ []))

value_at-within : (ns : List (List ℕ)) (es : Elements) (t : Tree) → value_at ns es ≡ Some t → length (value_spelling t) ≤ length (elements_spelling es)
value_at-within [] es t found = absurd cc
value_at-within (name ∷ others) es t found = by others (find name es) refl found (λ inner later. value_at-within others inner t later)
  where
    by : (ns : List (List ℕ)) (o : Option Tree) → find name es ≡ o → option_and_then (onward ns (value_at others)) o ≡ Some t
        → ((inner : Elements) → value_at others inner ≡ Some t → length (value_spelling t) ≤ length (elements_spelling inner)) → length (value_spelling t) ≤ length (elements_spelling es)
    by ns None is wrong later = absurd cc
    by [] (Some u) is here later =
        let same : u ≡ t = cc in
        omega (arith, ap (λ v. length (value_spelling v)) same, find-within name es u is)
    by (next ∷ ns) (Some (document inner)) is there later = omega (arith, later inner there, inner_len inner, find-within name es (document inner) is)
    by (next ∷ ns) (Some _) is wrong later = absurd cc

-- the value at a path has no more bytes than its document
pub value-within : (path : List ℕ) (d : Elements) (t : Tree) → value_at_path path d ≡ Some t → length (value_spelling t) ≤ length (spelling d)
value-within path d t found = omega (arith, value_at-within (names path) d t found, spelling_len d)

-- ---- keys

pub key_len-none : (d : Elements) → key_len d no_elements ≡ 5
key_len-none d = spelling_len no_elements

pub key_len-first : (d : Elements) (path : List ℕ) (t : Tree) (spec : Elements) → key_len d (element path t spec) ≡ (2 + length (value_spelling (keyed path d))) + key_len d spec
key_len-first d path t spec =
    omega (arith, spelling_len (key d (element path t spec)), first_len [] (keyed path d) (key d spec), spelling_len (key d spec))

pub fields_are : (xs : List Element) → fields (elements_of xs) ≡ length xs
fields_are [] = refl
fields_are (x ∷ xs) = ap suc (fields_are xs)

-- one more field behind those of a key
module _ (d done : Elements) (spec : Elements) (all : Elements) (so_far : append done (key d spec) ≡ all) where
  pub key_on : (path : List ℕ) (t value : Tree) (rest new : Elements) → spec ≡ element path t rest → value ≡ keyed path d → new ≡ append done (element [] value no_elements) → append new (key d rest) ≡ all
  key_on path t value rest new is same pushed =
      rw (pushed, same, append_assoc done (element [] (keyed path d) no_elements) (key d rest)) (ap (λ (s : Elements). append done (key d s)) (sym is) ∙ so_far)

-- ---- arrays

pub arrays_on : (d : Elements) (path : List ℕ) (t value : Tree) (spec rest : Elements) (All : Type 0) → spec ≡ element path t rest → value ≡ keyed path d → {b : Bool} → IsTrue b ↔ IsArray value → b ≡ false
    → HasArray d spec ↔ All → HasArray d rest ↔ All
arrays_on d path t value spec rest All split same {b} test is_not so_far =
    let none : IsArray (keyed path d) → ⊥ = λ h. by b is_not (test.1 (subst IsArray (sym same) h)) in
    (λ h. so_far.0 (subst (HasArray d) (sym split) (inr h)), λ a. behind (subst (HasArray d) split (so_far.1 a)) none)
  where
    by : (b : Bool) → b ≡ false → IsTrue b → ⊥
    by true e h = cc
    by false e h = cc

    behind : HasArray d (element path t rest) → (IsArray (keyed path d) → ⊥) → HasArray d rest
    behind (inl h) none = absurd (none h)
    behind (inr h) none = h

pub no_arrays : (d rest spec : Elements) → rest ≡ no_elements → HasArray d rest ↔ HasArray d spec → HasArray d spec → ⊥
no_arrays d rest spec none so_far h = subst (HasArray d) none (so_far.1 h)
