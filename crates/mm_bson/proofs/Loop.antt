-- Reading elements one after the other, as a loop does.
use Rattle.std.proofs.Common.{◌≡◌, ℕ, zero, suc, ◌+◌, ◌-◌, ◌<◌, ◌≤◌, List, [], ◌∷◌, ◌++◌, length, get_or, Option, Result, Ok, Err, refl, sym, ap, ◌∙◌, arith}
use Rattle.std.proofs.lemmas.Bool.{ne_eqb}
use Rattle.mm_bson.specs.declared.fault.BsonFault.{BsonFault}
use Rattle.mm_bson.specs.declared.fault.BsonFault.TheVariants.{BadLength, TooDeep}
use Rattle.mm_bson.specs.declared.doc.Element.{Element}
use Rattle.mm_bson.specs.View.{tree, elements_of}
use Rattle.mm_bson.specs.Tree.{Tree, Elements, no_elements, element, append}
use Rattle.mm_bson.specs.Reading.{◌>>=◌, Reader, next_due, element_at, elements_at, nested_at, body, ended}

pub elements_of-push : (xs : List Element) (e : Element) → elements_of (xs ++ e ∷ []) ≡ append (elements_of xs) (element e.name (tree e.value) no_elements)
elements_of-push [] e = refl
elements_of-push (x ∷ xs) e = ap (element x.name (tree x.value)) (elements_of-push xs e)

pub append_assoc : (a b c : Elements) → append (append a b) c ≡ append a (append b c)
append_assoc no_elements b c = refl
append_assoc (element name t es) b c = ap (element name t) (append_assoc es b c)

pub append-none : (a : Elements) → append a no_elements ≡ a
append-none no_elements = refl
append-none (element name t es) = ap (element name t) (append-none es)

-- what was read before, and what is still read
abbrev pub with_front : Elements → Result Elements BsonFault → Result Elements BsonFault
with_front front read = read >>= λ es. Ok (append front es)

regroup : (front : Elements) (name : List ℕ) (t : Tree) (read : Result Elements BsonFault)
    → with_front front (read >>= λ es. Ok (element name t es)) ≡ with_front (append front (element name t no_elements)) read
regroup front name t (Ok es) = ap (λ (x : Elements). Ok x) (sym (append_assoc front (element name t no_elements) es))
regroup front name t (Err f) = refl

-- a step that fails decides
pub fails-bind : {A B : Type 0} (e : BsonFault) (r : Result A BsonFault) (f : A → Result B BsonFault) → r ≡ Err e → (r >>= f) ≡ Err e
fails-bind e r f h = rw h refl

module _ (read : Reader) (start end : ℕ) where
  pub goes_on : (due : Option ℕ) (front : Elements) (most : ℕ) (bytes : List ℕ) (name : List ℕ) (t : Tree) (after : List ℕ) (total : Result Elements BsonFault)
      → length bytes ≤ most → length after < length bytes → element_at read due start end bytes ≡ Ok ((name, t), after)
      → with_front front (elements_at read due start end most bytes) ≡ total
      → (m : ℕ) × (length after ≤ m) × (with_front (append front (element name t no_elements)) (elements_at read (next_due due) start end m after) ≡ total)
  unfolding elements_at
  goes_on due front most [] name t after total long left h so_far = absurd (omega arith)
  goes_on due front zero (b ∷ bytes) name t after total long left h so_far = absurd (omega arith)
  goes_on due front (suc most) (b ∷ bytes) name t after total long left h so_far =
      let one : with_front front (elements_at read due start end (suc most) (b ∷ bytes)) ≡ with_front (append front (element name t no_elements)) (elements_at read (next_due due) start end most after) = rw h (regroup front name t (elements_at read (next_due due) start end most after)) in
      (most, omega arith, sym one ∙ so_far)

  pub stops : (due : Option ℕ) (front : Elements) (most : ℕ) (bytes : List ℕ) (e : BsonFault) (total : Result Elements BsonFault)
      → 0 < length bytes → length bytes ≤ most → element_at read due start end bytes ≡ Err e
      → with_front front (elements_at read due start end most bytes) ≡ total → total ≡ Err e
  unfolding elements_at
  stops due front most [] e total some long h so_far = absurd (omega arith)
  stops due front zero (b ∷ bytes) e total some long h so_far = absurd (omega arith)
  stops due front (suc most) (b ∷ bytes) e total some long h so_far =
      sym so_far ∙ (fails-bind e (elements_at read due start end (suc most) (b ∷ bytes)) (λ es. Ok (append front es))
      (fails-bind e (element_at read due start end (b ∷ bytes)) (λ x. elements_at read (next_due due) start end most x.1 >>= λ es. Ok (element x.0.0 x.0.1 es)) h))

  pub is_done : (due : Option ℕ) (front : Elements) (most : ℕ) (bytes : List ℕ) (total : Result Elements BsonFault)
      → length bytes ≡ 0 → with_front front (elements_at read due start end most bytes) ≡ total → total ≡ Ok front
  unfolding elements_at
  is_done due front most [] total none so_far = sym so_far ∙ ap (λ (x : Elements). Ok x) (append-none front)
  is_done due front most (b ∷ bytes) total none so_far = absurd (omega arith)

pub nested-zero : (levels : ℕ) (due : Option ℕ) (start : ℕ) (bytes : List ℕ) → levels ≡ 0 → nested_at levels due start bytes ≡ Err (TooDeep start)
unfolding nested_at
nested-zero zero due start bytes e = refl
nested-zero (suc levels) due start bytes e = absurd (omega arith)

-- the elements of a document of these bytes
abbrev pub elements_inside : ℕ → Option ℕ → ℕ → List ℕ → Result Elements BsonFault
elements_inside levels due start bytes = elements_at (nested_at (levels - 1)) due start (start + (length bytes - 1)) (length (body bytes)) (body bytes)

pub nested-step : (levels : ℕ) (due : Option ℕ) (start : ℕ) (bytes : List ℕ) → (levels ≡ 0 → ⊥) → nested_at levels due start bytes ≡ (elements_inside levels due start bytes >>= ended start bytes)
unfolding nested_at
nested-step zero due start bytes ne = absurd (ne refl)
nested-step (suc levels) due start bytes ne =
    let e : suc levels - 1 ≡ levels = omega arith in
    rw e refl

pub nested-fails : (levels : ℕ) (due : Option ℕ) (start : ℕ) (bytes : List ℕ) (e : BsonFault) → (levels ≡ 0 → ⊥)
    → elements_inside levels due start bytes ≡ Err e → nested_at levels due start bytes ≡ Err e
nested-fails levels due start bytes e ne h = rw (nested-step levels due start bytes ne) (fails-bind e (elements_inside levels due start bytes) (ended start bytes) h)

module _ (levels : ℕ) (due : Option ℕ) (start : ℕ) (bytes : List ℕ) (es : Elements) (ne : levels ≡ 0 → ⊥) (read : elements_inside levels due start bytes ≡ Ok es) where
  pub nested-ends : get_or bytes (length bytes - 1) 0 ≡ 0 → nested_at levels due start bytes ≡ Ok es
  nested-ends last = nested-step levels due start bytes ne ∙ rw (read, last) refl

  pub nested-unended : (get_or bytes (length bytes - 1) 0 ≡ 0 → ⊥) → nested_at levels due start bytes ≡ Err (BadLength start)
  nested-unended last = nested-step levels due start bytes ne ∙ rw (read, ne_eqb _ _ last) refl
