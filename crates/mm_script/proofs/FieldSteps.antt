-- Fields put behind others, one after the other.
use Rattle.std.proofs.Common.{◌≡◌, ℕ, suc, ◌+◌, ◌-◌, ◌<◌, ◌≤◌, max, Bool, true, false, cond, List, [], ◌∷◌, length, get_or, drop, Some, refl, sym, ap, ◌∙◌, arith}
use Rattle.std.specs.Str.{bytes_eq}
use Rattle.std.proofs.lemmas.List.{take_all, drop_more, drop_all}
use Rattle.std.proofs.Math.Nat.{le-max_right}
use Rattle.std.proofs.lemmas.Slice.Eq.{bytes_eq-Decides}
use Rattle.mm_bson.specs.declared.doc.Element.{Element}
use Rattle.mm_bson.specs.Tree.{Tree, Elements, no_elements, element, append, depth, tree_depth}
use Rattle.mm_bson.specs.View.{tree, elements_of}
use Rattle.mm_bson.specs.Path.{find}
use Rattle.mm_bson.proofs.Copies.{others}
use Rattle.mm_bson.proofs.Loop.{append_assoc}
use Rattle.mm_model.specs.Database.{id_name}
use Rattle.mm_model.specs.WellFormed.{begins_with_id}
use Rattle.mm_script.specs.Documents.{without_first_id, with_id, id_in_front}

others_are : {A : Type 0} (x : A) (xs : List A) → others (x ∷ xs) ≡ xs
others_are x xs =
    let n : suc (length xs) - 1 ≡ length xs = omega arith in
    rw n (take_all (length xs) xs (omega arith))

-- the elements of a list that is not empty are its first and the ones behind it
pub first_is : (first : Element) (xs : List Element) → 0 < length xs → first ≡ get_or xs 0 first → elements_of xs ≡ element first.name (tree first.value) (elements_of (others xs))
first_is first [] lt e = absurd (omega arith)
first_is first (x ∷ xs) lt e = rw (others_are x xs) (ap (λ (y : Element). element y.name (tree y.value) (elements_of xs)) (sym e))

pub none_left : (xs : List Element) → length xs < 1 → elements_of xs ≡ no_elements
none_left [] lt = refl
none_left (x ∷ xs) lt = absurd (omega arith)

-- the same from a place of the list on
pub first_from : (first : Element) (xs : List Element) (i : ℕ) → i < length xs → first ≡ get_or xs i first → elements_of (drop i xs) ≡ element first.name (tree first.value) (elements_of (drop (i + 1) xs))
first_from first xs i lt e = ap elements_of (drop_more xs i first lt) ∙ ap (λ (y : Element). element y.name (tree y.value) (elements_of (drop (i + 1) xs))) (sym e)

pub none_from : (xs : List Element) (i : ℕ) → length xs ≤ i → elements_of (drop i xs) ≡ no_elements
none_from xs i le = ap elements_of (drop_all i xs le)

pub field_on : (doc new rest all : Elements) (name : List ℕ) (t : Tree) → append doc (element name t rest) ≡ all → new ≡ append doc (element name t no_elements) → append new rest ≡ all
field_on doc new rest all name t so_far is = ap (λ (d : Elements). append d rest) is ∙ append_assoc doc (element name t no_elements) rest ∙ so_far

pub other_on : (doc new rest all : Elements) (name : List ℕ) (t : Tree) → bytes_eq name id_name ≡ false → append doc (without_first_id (element name t rest)) ≡ all
    → new ≡ append doc (element name t no_elements) → append new (without_first_id rest) ≡ all
other_on doc new rest all name t other so_far is =
    field_on doc new (without_first_id rest) all name t (ap (λ (b : Bool). append doc (cond b rest (element name t (without_first_id rest)))) (sym other) ∙ so_far) is

pub id_on : (doc rest all : Elements) (name : List ℕ) (t : Tree) → bytes_eq name id_name ≡ true → append doc (without_first_id (element name t rest)) ≡ all → append doc rest ≡ all
id_on doc rest all name t is so_far = ap (λ (b : Bool). append doc (cond b rest (element name t (without_first_id rest)))) (sym is) ∙ so_far

pub rest_shallow : (t : Tree) (name : List ℕ) (rest : Elements) → depth (element name t rest) < 100 → depth rest < 100
rest_shallow t name rest h = max_right (tree_depth t) (depth rest) h
  where
    max_right : (a b : ℕ) → max a b < 100 → b < 100
    max_right a b h = omega (arith, le-max_right a b)

-- a document that begins with its _id is itself
pub id_first : (made : List ℕ) (d : Elements) → begins_with_id d ≡ true → d ≡ with_id made d
id_first made no_elements is = absurd (cc)
id_first made (element name t es) is =
    let same : name ≡ id_name = (bytes_eq-Decides name id_name).0 is in
    ap (λ (n : List ℕ). element n t es) same
    ∙ ap (λ (b : Bool). element id_name t (cond b es (element name t (without_first_id es)))) (sym is)
    ∙ ap (λ (b : Bool). id_in_front made (element name t es) (cond b (Some t) (find id_name es))) (sym is)
