-- One more element behind those of a document, and one more value behind those of an array.
use Rattle.std.proofs.Common.{◌≡◌, ℕ, suc, ◌+◌, ◌-◌, ◌<◌, ◌^◌, List, [], ◌∷◌, ◌++◌, length, take, drop, max, refl, sym, ap, ◌∙◌, append_assoc, append-nil, arith}
use Rattle.std.specs.Prelude.{slice_set}
use Rattle.std.specs.Int.{w32, to_le_bytes}
use Rattle.std.specs.Fmt.{decimal}
use Rattle.std.proofs.Math.Seq.{set-append_seam}
use Rattle.std.proofs.Math.ListN.{drop_of_length-le}
use Rattle.std.proofs.lemmas.List.{take_all, drop_at, length-append}
use Rattle.mm_bson.specs.Tree.{Tree, tree_depth, depth, values_depth, Elements, no_elements, element, Values, no_values, item, append, append_values, count}
use Rattle.mm_bson.specs.Spelling.{type_byte, framed, spelling, array_spelling, value_spelling, element_spelling, element_len, elements_spelling, values_spelling, IsName, IsValue, AreElements, AreValues}
use Rattle.mm_bson.specs.Built.{HoldsDocument, HoldsArray}

-- ---- bytes

pub framed_len : (inner : List ℕ) → length (framed inner) ≡ length inner + 5
unfolding framed
framed_len inner = omega (arith, length-append inner (0 ∷ []))

-- the last byte becomes a type byte, and the length counts all
pub sealed : (inner name v all : List ℕ) (kind last : ℕ) → all ≡ (((framed inner ++ name) ++ 0 ∷ []) ++ v) ++ 0 ∷ [] → last ≡ length (framed inner) - 1
    → to_le_bytes w32 (length all) ++ drop 4 (slice_set all last kind) ≡ framed (inner ++ (kind ∷ ((name ++ 0 ∷ []) ++ v)))
unfolding framed
sealed inner name v all kind last is at =
    let head : List ℕ = to_le_bytes w32 (length inner + 5) in
    let more : List ℕ = (name ++ 0 ∷ []) ++ (v ++ 0 ∷ []) in
    let one : List ℕ = kind ∷ ((name ++ 0 ∷ []) ++ v) in
    let parts : all ≡ (head ++ inner) ++ 0 ∷ more = is ∙ simp append_assoc in
    let place : last ≡ length (head ++ inner) = omega (arith, at, length-append inner (0 ∷ []), length-append head inner) in
    let put : slice_set all last kind ≡ (head ++ inner) ++ kind ∷ more = rw (parts, place) (set-append_seam (head ++ inner) 0 more kind) in
    let rest : drop 4 (slice_set all last kind) ≡ inner ++ kind ∷ more = ap (drop 4) (put ∙ append_assoc head inner (kind ∷ more)) ∙ drop_at head (inner ++ kind ∷ more) 4 refl in
    let counts : length all ≡ length (inner ++ one) + 5 = omega (arith, ap length parts, length-append (head ++ inner) (0 ∷ more), length-append head inner, length-append inner one, length-append (name ++ 0 ∷ []) (v ++ 0 ∷ []), length-append (name ++ 0 ∷ []) v, length-append v (0 ∷ [])) in
    let ends : inner ++ kind ∷ more ≡ (inner ++ one) ++ 0 ∷ [] = simp append_assoc in
    rw (rest, counts, ends) refl

behind : (b : ℕ) (name v rest last : List ℕ) → b ∷ (name ++ (v ++ (rest ++ last))) ≡ (b ∷ (name ++ (v ++ rest))) ++ last
behind b name v rest last = ap (λ (x : List ℕ). b ∷ x) (ap (λ (x : List ℕ). name ++ x) (sym (append_assoc v rest last)) ∙ sym (append_assoc name (v ++ rest) last))

-- what a buffer holds once all of its bytes were lent and come back
pub refilled : (n : ℕ) (new old : List ℕ) → n ≡ length old → length new ≡ length old → take n (new ++ drop (length new) old) ≡ new
refilled n new old e f =
    let none : drop (length new) old ≡ [] = drop_of_length-le old (omega arith) in
    rw (none, append-nil) (take_all n new (omega arith))

-- ---- documents

pub spelling_len : (es : Elements) → length (spelling es) ≡ length (elements_spelling es) + 5
unfolding spelling
spelling_len es = framed_len (elements_spelling es)

pub elements_spelling-push : (es : Elements) (name : List ℕ) (t : Tree) → elements_spelling (append es (element name t no_elements)) ≡ elements_spelling es ++ element_spelling name t
elements_spelling-push no_elements name t = ap (λ (x : List ℕ). type_byte t ∷ ((name ++ 0 ∷ []) ++ x)) (append-nil (value_spelling t))
elements_spelling-push (element n u es) name t =
    ap (λ (x : List ℕ). type_byte u ∷ ((n ++ 0 ∷ []) ++ (value_spelling u ++ x))) (elements_spelling-push es name t) ∙ behind (type_byte u) (n ++ 0 ∷ []) (value_spelling u) (elements_spelling es) (element_spelling name t)

pub AreElements-push : (es : Elements) (name : List ℕ) (t : Tree) → AreElements es → IsName name → IsValue t → AreElements (append es (element name t no_elements))
AreElements-push no_elements name t h n v = (n, v, tt)
AreElements-push (element m u es) name t h n v = (h.0, h.1, AreElements-push es name t h.2 n v)

pub depth-push : (es : Elements) (name : List ℕ) (t : Tree) → depth (append es (element name t no_elements)) ≡ max (depth es) (tree_depth t)
depth-push no_elements name t = omega arith
depth-push (element m u es) name t = omega (arith, depth-push es name t)

element_spelling_len : (name : List ℕ) (t : Tree) → length (element_spelling name t) ≡ element_len name t
element_spelling_len name t = omega (arith, length-append (name ++ 0 ∷ []) (value_spelling t), length-append name (0 ∷ []))

pub spelling-push : (es : Elements) (name : List ℕ) (t : Tree) → spelling (append es (element name t no_elements)) ≡ framed (elements_spelling es ++ element_spelling name t)
unfolding spelling
spelling-push es name t = ap framed (elements_spelling-push es name t)

pub spelling_len-push : (es : Elements) (name : List ℕ) (t : Tree) → length (spelling (append es (element name t no_elements))) ≡ length (spelling es) + element_len name t
unfolding spelling
spelling_len-push es name t =
    ap length (spelling-push es name t) ∙ omega (arith, framed_len (elements_spelling es ++ element_spelling name t), framed_len (elements_spelling es), length-append (elements_spelling es) (element_spelling name t), element_spelling_len name t)

-- what a document holds once an element is behind the others
pub document_grows : (old new : List ℕ) (inner : ℕ) (es : Elements) (name : List ℕ) (t : Tree) → HoldsDocument old inner es → IsName name → IsValue t → tree_depth t < 100
    → length (spelling es) + element_len name t < 2 ^ 31 → ((inside : List ℕ) → old ≡ framed inside → new ≡ framed (inside ++ element_spelling name t))
    → HoldsDocument new (max inner (tree_depth t)) (append es (element name t no_elements))
unfolding spelling
document_grows old new inner es name t h n v shallow fits grown = record {
  spelled = grown (elements_spelling es) h.spelled ∙ sym (spelling-push es name t);
  deep = omega (arith, h.deep, depth-push es name t);
  built = record {
    elements = AreElements-push es name t h.built.elements n v;
    levels = omega (arith, h.built.levels, depth-push es name t);
    fits = omega (arith, spelling_len-push es name t);
  };
}

-- the empty document, and the empty array
pub empty_document : HoldsDocument (5 ∷ 0 ∷ 0 ∷ 0 ∷ 0 ∷ []) 0 no_elements
unfolding spelling framed
empty_document = record { spelled = refl; deep = refl; built = record { elements = tt; levels = omega arith; fits = omega arith } }

pub empty_array : HoldsArray (5 ∷ 0 ∷ 0 ∷ 0 ∷ 0 ∷ []) 0 no_values
unfolding array_spelling framed
empty_array = record { spelled = refl; deep = refl; built = record { values = tt; levels = omega arith; fits = omega arith } }

-- ---- arrays

pub array_spelling_len : (vs : Values) → length (array_spelling vs) ≡ length (values_spelling 0 vs) + 5
unfolding array_spelling
array_spelling_len vs = framed_len (values_spelling 0 vs)

pub values_spelling-push : (i : ℕ) (vs : Values) (t : Tree) → values_spelling i (append_values vs (item t no_values)) ≡ values_spelling i vs ++ element_spelling (decimal (i + count vs)) t
values_spelling-push i no_values t =
    let same : i + 0 ≡ i = omega arith in
    rw same (ap (λ (x : List ℕ). type_byte t ∷ ((decimal i ++ 0 ∷ []) ++ x)) (append-nil (value_spelling t)))
values_spelling-push i (item u vs) t =
    let same : i + suc (count vs) ≡ (i + 1) + count vs = omega arith in
    let last : List ℕ = element_spelling (decimal ((i + 1) + count vs)) t in
    rw same (ap (λ (x : List ℕ). type_byte u ∷ ((decimal i ++ 0 ∷ []) ++ (value_spelling u ++ x))) (values_spelling-push (i + 1) vs t) ∙ behind (type_byte u) (decimal i ++ 0 ∷ []) (value_spelling u) (values_spelling (i + 1) vs) last)

pub AreValues-push : (vs : Values) (t : Tree) → AreValues vs → IsValue t → AreValues (append_values vs (item t no_values))
AreValues-push no_values t h v = (v, tt)
AreValues-push (item u vs) t h v = (h.0, AreValues-push vs t h.1 v)

pub values_depth-push : (vs : Values) (t : Tree) → values_depth (append_values vs (item t no_values)) ≡ max (values_depth vs) (tree_depth t)
values_depth-push no_values t = omega arith
values_depth-push (item u vs) t = omega (arith, values_depth-push vs t)

pub array_spelling-push : (vs : Values) (t : Tree) → array_spelling (append_values vs (item t no_values)) ≡ framed (values_spelling 0 vs ++ element_spelling (decimal (count vs)) t)
unfolding array_spelling
array_spelling-push vs t =
    let same : 0 + count vs ≡ count vs = omega arith in
    ap framed (values_spelling-push 0 vs t ∙ ap (λ (i : ℕ). values_spelling 0 vs ++ element_spelling (decimal i) t) same)

pub array_spelling_len-push : (vs : Values) (t : Tree) → length (array_spelling (append_values vs (item t no_values))) ≡ length (array_spelling vs) + element_len (decimal (count vs)) t
unfolding array_spelling
array_spelling_len-push vs t =
    let name : List ℕ = decimal (count vs) in
    ap length (array_spelling-push vs t) ∙ omega (arith, framed_len (values_spelling 0 vs ++ element_spelling name t), framed_len (values_spelling 0 vs), length-append (values_spelling 0 vs) (element_spelling name t), element_spelling_len name t)

-- what an array holds once a value is behind the others
pub array_grows : (old new : List ℕ) (inner : ℕ) (vs : Values) (t : Tree) → HoldsArray old inner vs → IsValue t → tree_depth t < 100
    → length (array_spelling vs) + element_len (decimal (count vs)) t < 2 ^ 31 → ((inside : List ℕ) → old ≡ framed inside → new ≡ framed (inside ++ element_spelling (decimal (count vs)) t))
    → HoldsArray new (max inner (tree_depth t)) (append_values vs (item t no_values))
unfolding array_spelling
array_grows old new inner vs t h v shallow fits grown = record {
  spelled = grown (values_spelling 0 vs) h.spelled ∙ sym (array_spelling-push vs t);
  deep = omega (arith, h.deep, values_depth-push vs t);
  built = record {
    values = AreValues-push vs t h.built.values v;
    levels = omega (arith, h.built.levels, values_depth-push vs t);
    fits = omega (arith, array_spelling_len-push vs t);
  };
}
