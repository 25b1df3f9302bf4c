-- Where a value's bytes lie in those of its document.
use Rattle.std.proofs.Common.{◌≡◌, ℕ, ◌+◌, ◌-◌, ◌≤◌, List, [], ◌∷◌, ◌++◌, length, take, drop, refl, sym, ap, subst, ◌∙◌, append_assoc, arith}
use Rattle.std.specs.Int.{w32, to_le_bytes}
use Rattle.std.proofs.lemmas.List.{take_all, take-take, take_at, drop_at, drop-drop, drop-take, length-append, length-drop, length-take-le}
use Rattle.mm_bson.specs.declared.doc.Value.{Value}
use Rattle.mm_bson.specs.declared.doc.Element.{Element}
use Rattle.mm_bson.specs.View.{tree, elements_of, values_of}
use Rattle.mm_bson.specs.Tree.{Tree, Elements, no_elements, element, append, depth, Values, no_values, item, append_values, values_depth}
use Rattle.mm_bson.specs.Named.{named, unnamed}
use Rattle.mm_bson.specs.Spelling.{type_byte, value_spelling, elements_spelling, spelling, array_spelling, AreValues}
use Rattle.mm_bson.specs.Built.{HoldsDocument, HoldsArray}
use Rattle.mm_bson.specs.Walk.{EndsAt, SpellsDocument, SpellsArray}
use Rattle.mm_bson.proofs.Again.{spelling_opened}
use Rattle.mm_bson.proofs.Loop.{elements_of-push, append_assoc as append_elements_assoc}
use Rattle.mm_bson.proofs.Numbered.{unnamed_again, numbered_depth, numbered_values, values_of-push, append_values_assoc}
use Rattle.mm_bson.proofs.Walks.{array_spelling_is}

pub whole_ends : (all : List ℕ) → EndsAt (length all) all all
whole_ends all = record { front = []; parts = take_all (length all) all (omega arith); within = omega arith }

pub end_is : (end : ℕ) (bytes all : List ℕ) (h : EndsAt end bytes all) → end ≡ length h.front + length bytes
end_is end bytes all h = omega (arith, length-take-le end all h.within, ap length h.parts, length-append h.front bytes)

pub last_ends : (end : ℕ) (a b all : List ℕ) → EndsAt end (a ++ b) all → EndsAt end b all
last_ends end a b all h = record { front = h.front ++ a; parts = h.parts ∙ sym (append_assoc h.front a b); within = h.within }

pub first_ends : (end : ℕ) (a b all : List ℕ) → EndsAt end (a ++ b) all → EndsAt (end - length b) a all
first_ends end a b all h =
    let long = end_is end (a ++ b) all h in
    let both = length-append a b in
    let place : length (h.front ++ a) ≡ end - length b = omega (arith, length-append h.front a) in
    let shorter = take-take (end - length b) end all (omega arith) in
    record {
      front = h.front;
      parts = sym shorter ∙ ap (take (end - length b)) (h.parts ∙ sym (append_assoc h.front a b)) ∙ take_at (h.front ++ a) b (end - length b) place;
      within = omega (arith, h.within);
    }

-- what lies there
pub part_is : (end : ℕ) (bytes all : List ℕ) → EndsAt end bytes all → take (length bytes) (drop (end - length bytes) all) ≡ bytes
part_is end bytes all h =
    let long = end_is end bytes all h in
    let start : length h.front ≡ end - length bytes = omega arith in
    let sum : end - length bytes + length bytes ≡ end = omega arith in
    sym (drop-take (end - length bytes) (length bytes) all) ∙ ap (λ (i : ℕ). drop (end - length bytes) (take i all)) sum ∙ ap (drop (end - length bytes)) h.parts ∙ drop_at h.front bytes (end - length bytes) start

pub part_fits : (end : ℕ) (bytes all : List ℕ) → EndsAt end bytes all → (length bytes ≤ end) × (end - length bytes + length bytes ≤ length all)
part_fits end bytes all h =
    let long = end_is end bytes all h in
    (omega arith, omega (arith, h.within))

-- the elements of a document end before its last byte
pub inner_ends : (end : ℕ) (es : Elements) (all : List ℕ) → EndsAt end (spelling es) all → EndsAt (end - 1) (elements_spelling es) all
inner_ends end es all h =
    let head : List ℕ = to_le_bytes w32 (length (spelling es)) in
    first_ends end (elements_spelling es) (0 ∷ []) all (last_ends end head (elements_spelling es ++ 0 ∷ []) all (subst (λ (b : List ℕ). EndsAt end b all) (spelling_opened es) h))

pub list_ends : (end : ℕ) (vs : Values) (all : List ℕ) → EndsAt end (array_spelling vs) all → EndsAt end (spelling (named 0 vs)) all
list_ends end vs all h = subst (λ (b : List ℕ). EndsAt end b all) (sym (array_spelling_is vs)) h

-- one step: the value, and what is behind it
pub field_ends : (end : ℕ) (name : List ℕ) (t : Tree) (es : Elements) (all : List ℕ) → EndsAt end (elements_spelling (element name t es)) all
    → EndsAt (end - length (elements_spelling es)) (value_spelling t) all × EndsAt end (elements_spelling es) all
field_ends end name t es all h =
    let others : List ℕ = elements_spelling es in
    let rest = last_ends end (type_byte t ∷ (name ++ 0 ∷ [])) (value_spelling t ++ others) all h in
    (first_ends end (value_spelling t) others all rest, last_ends end (value_spelling t) others all rest)

-- ---- what a document and an array hold

pub document_holds : (bytes part : List ℕ) (inner : ℕ) (found es : Elements) → SpellsDocument bytes es → part ≡ spelling es → inner ≡ depth found → found ≡ es → HoldsDocument part inner found
document_holds bytes part inner found es h is deep same = record {
  spelled = is ∙ ap spelling (sym same);
  deep = deep;
  built = rw same (record { elements = h.elements; levels = h.levels; fits = omega (arith, ap length h.spelled, h.fits) });
}

pub array_holds : (bytes part : List ℕ) (inner : ℕ) (found vs : Values) → SpellsArray bytes (named 0 vs) → part ≡ array_spelling vs → inner ≡ values_depth found → found ≡ vs → HoldsArray part inner found
array_holds bytes part inner found vs h is deep same =
    let d = h.document in
    let levels : values_depth vs ≡ depth (named 0 vs) = ap values_depth (sym (unnamed_again 0 vs)) ∙ numbered_depth (named 0 vs) in
    let fits : length (array_spelling vs) ≡ length bytes = ap length (sym (d.spelled ∙ array_spelling_is vs)) in
    record {
      spelled = is ∙ ap array_spelling (sym same);
      deep = deep;
      built = rw same (record { values = subst AreValues (unnamed_again 0 vs) (numbered_values (named 0 vs) d.elements); levels = omega (arith, levels, d.levels); fits = omega (arith, fits, d.fits) });
    }

-- ---- one more element, and one more value

pub one_put : (done : List Element) (made : Element) (new : List Element) (name : List ℕ) (t : Tree) → new ≡ done ++ made ∷ [] → made.name ≡ name → tree made.value ≡ t
    → elements_of new ≡ append (elements_of done) (element name t no_elements)
one_put done made new name t pushed name_is valued = rw (pushed, elements_of-push done made, name_is, valued) refl

pub one_value_put : (done : List Value) (made : Value) (new : List Value) (t : Tree) → new ≡ done ++ made ∷ [] → tree made ≡ t → values_of new ≡ append_values (values_of done) (item t no_values)
one_value_put done made new t pushed valued = rw (pushed, values_of-push done made, valued) refl

pub one_more : (done new : Elements) (name : List ℕ) (t : Tree) (rest old all : Elements) → new ≡ append done (element name t no_elements) → old ≡ element name t rest → append done old ≡ all → append new rest ≡ all
one_more done new name t rest old all put split so_far = rw (put, append_elements_assoc done (element name t no_elements) rest) (ap (append done) (sym split) ∙ so_far)

pub one_more_value : (done new : Values) (name : List ℕ) (t : Tree) (rest old : Elements) (all : Values) → new ≡ append_values done (item t no_values) → old ≡ element name t rest
    → append_values done (unnamed old) ≡ all → append_values new (unnamed rest) ≡ all
one_more_value done new name t rest old all put split so_far =
    rw (put, append_values_assoc done (item t no_values) (unnamed rest)) (ap (λ (es : Elements). append_values done (unnamed es)) (sym split) ∙ so_far)

-- ---- a part of a part

pub part_of_part : (all : List ℕ) (s n start len : ℕ) → start + len ≤ n → take len (drop start (take n (drop s all))) ≡ take len (drop (s + start) all)
part_of_part all s n start len h =
    let k : ℕ = n - start in
    let sum : start + k ≡ n = omega arith in
    let within : len ≤ k = omega arith in
    ap (λ (i : ℕ). take len (drop start (take i (drop s all)))) (sym sum) ∙ ap (take len) (drop-take start k (drop s all)) ∙ take-take len k (drop start (drop s all)) within ∙ ap (take len) (drop-drop start s all)

pub part_len : (s n : ℕ) (all now : List ℕ) → s + n ≤ length all → take n (drop s all) ≡ now → length now ≡ n
part_len s n all now h e = ap length (sym e) ∙ length-take-le n (drop s all) (omega (arith, length-drop s all))
