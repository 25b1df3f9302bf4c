-- An array and the document of its values.
use Rattle.std.proofs.Common.{◌≡◌, ℕ, suc, ◌+◌, ◌<◌, ◌^◌, true, List, [], ◌∷◌, ◌++◌, length, refl, ap, max, arith}
use Rattle.std.specs.Fmt.{decimal}
use Rattle.std.specs.Str.{bytes_eq}
use Rattle.std.proofs.lemmas.Str.{is_utf8-from_IsUtf8, IsUtf8-from_ascii}
use Rattle.std.specs.Str.Parse.{AllDigits}
use Rattle.std.proofs.lemmas.Str.Parse.{digit_from_value}
use Rattle.std.proofs.lemmas.Fmt.{IsAscii-decimal, decimal_is_IsNumeral}
use Rattle.std.proofs.lemmas.Slice.Eq.{bytes_eq-Decides}
use Rattle.mm_bson.specs.declared.doc.Value.{Value}
use Rattle.mm_bson.specs.Tree.{Tree, tree_depth, depth, values_depth, Elements, no_elements, element, Values, no_values, item, append, append_values, count}
use Rattle.mm_bson.specs.Named.{named, unnamed, AreNumbered}
use Rattle.mm_bson.specs.Spelling.{type_byte, value_spelling, elements_spelling, values_spelling, AreElements, AreValues, IsName, HasNoZero}
use Rattle.mm_bson.specs.View.{tree, values_of}

pub unnamed_again : (i : ℕ) (vs : Values) → unnamed (named i vs) ≡ vs
unnamed_again i no_values = refl
unnamed_again i (item t vs) = ap (item t) (unnamed_again (i + 1) vs)

-- what is numbered is named so
pub named_again : (i : ℕ) (es : Elements) → AreNumbered i es → named i (unnamed es) ≡ es
named_again i no_elements h = refl
named_again i (element name t es) h = rw (← h.0) (ap (element name t) (named_again (i + 1) es h.1))

pub numbered_spelling : (i : ℕ) (vs : Values) → elements_spelling (named i vs) ≡ values_spelling i vs
numbered_spelling i no_values = refl
numbered_spelling i (item t vs) = ap (λ (x : List ℕ). type_byte t ∷ ((decimal i ++ 0 ∷ []) ++ (value_spelling t ++ x))) (numbered_spelling (i + 1) vs)

pub numbered_depth : (es : Elements) → values_depth (unnamed es) ≡ depth es
numbered_depth no_elements = refl
numbered_depth (element name t es) = ap (max (tree_depth t)) (numbered_depth es)

pub numbered_values : (es : Elements) → AreElements es → AreValues (unnamed es)
numbered_values no_elements h = tt
numbered_values (element name t es) h = (h.1, numbered_values es h.2)

-- ---- one more value

pub values_of-push : (xs : List Value) (v : Value) → values_of (xs ++ v ∷ []) ≡ append_values (values_of xs) (item (tree v) no_values)
values_of-push [] v = refl
values_of-push (x ∷ xs) v = ap (item (tree x)) (values_of-push xs v)

pub count-push : (vs : Values) (t : Tree) → count (append_values vs (item t no_values)) ≡ count vs + 1
count-push no_values t = omega arith
count-push (item u vs) t = omega (arith, count-push vs t)

pub named-push : (i : ℕ) (vs : Values) (t : Tree) → append (named i vs) (element (decimal (i + count vs)) t no_elements) ≡ named i (append_values vs (item t no_values))
named-push i no_values t =
    let same : i + 0 ≡ i = omega arith in
    rw same refl
named-push i (item u vs) t =
    let same : i + suc (count vs) ≡ (i + 1) + count vs = omega arith in
    rw same (ap (element (decimal i) u) (named-push (i + 1) vs t))

pub numbered_push : (vs : Values) (t : Tree) (i : ℕ) → i ≡ count vs → append (named 0 vs) (element (decimal i) t no_elements) ≡ named 0 (append_values vs (item t no_values))
numbered_push vs t i e =
    let same : i ≡ 0 + count vs = omega arith in
    rw same (named-push 0 vs t)

-- ---- names

pub name_is : (name : List ℕ) (i : ℕ) → bytes_eq name (decimal i) ≡ true → name ≡ decimal i
name_is name i e = (bytes_eq-Decides name (decimal i)).0 e

pub is_itself : (name : List ℕ) → bytes_eq name name ≡ true
is_itself name = (bytes_eq-Decides name name).1 refl

digits_no_zero : (ds : List ℕ) → AllDigits 10 ds → HasNoZero ds
digits_no_zero [] h = tt
digits_no_zero (d ∷ ds) h = ((λ e. absurd (omega (arith, digit_from_value d h.0, e))), digits_no_zero ds h.1)

-- a numeral may stand for a name
pub numeral_is_name : (i : ℕ) → i < 2 ^ 64 → IsName (decimal i)
numeral_is_name i lt =
    (is_utf8-from_IsUtf8 (decimal i) (IsUtf8-from_ascii (decimal i) (IsAscii-decimal i lt)), digits_no_zero (decimal i) (decimal_is_IsNumeral i lt).0.1)

pub count_is : (xs : List Value) → count (values_of xs) ≡ length xs
count_is [] = refl
count_is (x ∷ xs) = ap suc (count_is xs)

pub append_values_assoc : (a b c : Values) → append_values (append_values a b) c ≡ append_values a (append_values b c)
append_values_assoc no_values b c = refl
append_values_assoc (item t vs) b c = ap (item t) (append_values_assoc vs b c)

pub append_values-none : (a : Values) → append_values a no_values ≡ a
append_values-none no_values = refl
append_values-none (item t vs) = ap (item t) (append_values-none vs)
