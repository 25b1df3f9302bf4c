-- The value or the element that a loop comes to, and what lies behind it.
use Rattle.std.proofs.Common.{◌≡◌, ℕ, zero, suc, ◌+◌, ◌<◌, ◌≤◌, List, [], ◌∷◌, length, get_or, drop, sym, ap, ◌∙◌, arith}
use Rattle.std.proofs.lemmas.List.{drop_all}
use Rattle.mm_bson.specs.declared.doc.Value.{Value}
use Rattle.mm_bson.specs.declared.doc.Element.{Element}
use Rattle.mm_bson.specs.Tree.{no_elements, element, no_values, item}
use Rattle.mm_bson.specs.View.{tree, elements_of, values_of}

value_on : (v : Value) (vs : List Value) (i : ℕ) → i < length vs → v ≡ get_or vs i v → values_of (drop i vs) ≡ item (tree v) (values_of (drop (suc i) vs))
value_on v [] i lt is = absurd (omega (arith, lt))
value_on v (w ∷ vs) zero lt is = ap (λ (x : Value). item (tree x) (values_of vs)) (sym is)
value_on v (w ∷ vs) (suc i) lt is = value_on v vs i (omega (arith, lt)) is

pub value_at : (v : Value) (vs : List Value) (i : ℕ) → i < length vs → v ≡ get_or vs i v → values_of (drop i vs) ≡ item (tree v) (values_of (drop (i + 1) vs))
value_at v vs i lt is =
    let next : suc i ≡ i + 1 = omega arith in
    value_on v vs i lt is ∙ ap (λ (k : ℕ). item (tree v) (values_of (drop k vs))) next

pub no_value_at : (vs : List Value) (i : ℕ) → length vs ≤ i → values_of (drop i vs) ≡ no_values
no_value_at vs i le = ap values_of (drop_all i vs le)

element_on : (e : Element) (es : List Element) (i : ℕ) → i < length es → e ≡ get_or es i e → elements_of (drop i es) ≡ element e.name (tree e.value) (elements_of (drop (suc i) es))
element_on e [] i lt is = absurd (omega (arith, lt))
element_on e (x ∷ es) zero lt is = ap (λ (y : Element). element y.name (tree y.value) (elements_of es)) (sym is)
element_on e (x ∷ es) (suc i) lt is = element_on e es i (omega (arith, lt)) is

pub element_at : (e : Element) (es : List Element) (i : ℕ) → i < length es → e ≡ get_or es i e → elements_of (drop i es) ≡ element e.name (tree e.value) (elements_of (drop (i + 1) es))
element_at e es i lt is =
    let next : suc i ≡ i + 1 = omega arith in
    element_on e es i lt is ∙ ap (λ (k : ℕ). element e.name (tree e.value) (elements_of (drop k es))) next

pub no_element_at : (es : List Element) (i : ℕ) → length es ≤ i → elements_of (drop i es) ≡ no_elements
no_element_at es i le = ap elements_of (drop_all i es le)
