-- How long documents and arrays are.
use Rattle.std.proofs.Common.{◌≡◌, ℕ, ◌+◌, ◌≤◌, List, [], ◌∷◌, ◌++◌, length, ap, ◌∙◌, arith}
use Rattle.std.specs.Fmt.{decimal}
use Rattle.std.proofs.lemmas.List.{length-append}
use Rattle.mm_bson.proofs.Loop.{append_assoc}
use Rattle.mm_bson.specs.Tree.{Tree, tree_depth, depth, values_depth, Elements, no_elements, element, append, Values, no_values, item, append_values, count}
use Rattle.mm_bson.specs.Spelling.{spelling, array_spelling, elements_spelling, values_spelling, value_spelling, element_len}
use Rattle.mm_bson.proofs.Building.{spelling_len, array_spelling_len, array_spelling_len-push}
use Rattle.mm_bson.proofs.Numbered.{append_values_assoc}

pub first_len : (name : List ℕ) (t : Tree) (es : Elements) → length (elements_spelling (element name t es)) ≡ element_len name t + length (elements_spelling es)
first_len name t es = omega (arith, length-append (name ++ 0 ∷ []) (value_spelling t ++ elements_spelling es), length-append name (0 ∷ []), length-append (value_spelling t) (elements_spelling es))

pub first_value_len : (i : ℕ) (t : Tree) (vs : Values) → length (values_spelling i (item t vs)) ≡ element_len (decimal i) t + length (values_spelling (i + 1) vs)
first_value_len i t vs = omega (arith, length-append (decimal i ++ 0 ∷ []) (value_spelling t ++ values_spelling (i + 1) vs), length-append (decimal i) (0 ∷ []), length-append (value_spelling t) (values_spelling (i + 1) vs))

pub elements_len-append : (a b : Elements) → length (elements_spelling (append a b)) ≡ length (elements_spelling a) + length (elements_spelling b)
elements_len-append no_elements b = omega arith
elements_len-append (element n t es) b = omega (arith, first_len n t (append es b), first_len n t es, elements_len-append es b)

-- one more element of a document fits
pub element_fits : (done all : Elements) (name : List ℕ) (t : Tree) (rest : Elements) → append done (element name t rest) ≡ all → length (spelling done) + element_len name t ≤ length (spelling all)
element_fits done all name t rest is =
    omega (arith, spelling_len done, spelling_len all, elements_len-append done (element name t rest), first_len name t rest, ap (λ (es : Elements). length (elements_spelling es)) is)

values_len-front : (i : ℕ) (a b : Values) → length (values_spelling i a) ≤ length (values_spelling i (append_values a b))
values_len-front i no_values b = omega arith
values_len-front i (item t a) b = omega (arith, first_value_len i t a, first_value_len i t (append_values a b), values_len-front (i + 1) a b)

pub value_fits : (done all : Values) (t : Tree) (rest : Values) → append_values done (item t rest) ≡ all → length (array_spelling done) + element_len (decimal (count done)) t ≤ length (array_spelling all)
value_fits done all t rest is =
    let one : Values = append_values done (item t no_values) in
    let whole : append_values one rest ≡ all = append_values_assoc done (item t no_values) rest ∙ is in
    omega (arith, array_spelling_len-push done t, array_spelling_len one, array_spelling_len all, values_len-front 0 one rest, ap (λ (vs : Values). length (values_spelling 0 vs)) whole)

deep_value : (a : Values) (t : Tree) (b : Values) → tree_depth t ≤ values_depth (append_values a (item t b))
deep_value no_values t b = omega arith
deep_value (item u a) t b = omega (arith, deep_value a t b)

pub value_shallow : (done all : Values) (t : Tree) (rest : Values) → append_values done (item t rest) ≡ all → tree_depth t ≤ values_depth all
value_shallow done all t rest is = omega (arith, deep_value done t rest, ap values_depth is)

deep_element : (a : Elements) (name : List ℕ) (t : Tree) (b : Elements) → tree_depth t ≤ depth (append a (element name t b))
deep_element no_elements name t b = omega arith
deep_element (element n u a) name t b = omega (arith, deep_element a name t b)

pub element_shallow : (done all : Elements) (name : List ℕ) (t : Tree) (rest : Elements) → append done (element name t rest) ≡ all → tree_depth t ≤ depth all
element_shallow done all name t rest is = omega (arith, deep_element done name t rest, ap depth is)

-- one more value, and one more element, behind those that are there
pub value_on : (done new all : Values) (t : Tree) (rest : Values) → append_values done (item t rest) ≡ all → new ≡ append_values done (item t no_values) → append_values new rest ≡ all
value_on done new all t rest told is = rw is (append_values_assoc done (item t no_values) rest ∙ told)

pub element_on : (done new all : Elements) (name : List ℕ) (t : Tree) (rest : Elements) → append done (element name t rest) ≡ all → new ≡ append done (element name t no_elements) → append new rest ≡ all
element_on done new all name t rest told is = rw is (append_assoc done (element name t no_elements) rest ∙ told)
