-- Lists in memory, one after the other.
use Rattle.std.proofs.Common.{◌≡◌, ℕ, true, ◌+◌, ◌<◌, ◌≤◌, List, [], ◌∷◌, ◌++◌, length, get_or, drop, refl, sym, ap, ◌∙◌, arith}
use Rattle.std.proofs.lemmas.List.{drop_more, drop_all}
use Rattle.mm_bson.specs.declared.doc.Value.{Value}
use Rattle.mm_bson.specs.declared.doc.Element.{Element}
use Rattle.mm_bson.specs.View.{tree, elements_of, values_of}
use Rattle.mm_bson.specs.Tree.{Tree, document, Elements, no_elements, element, Values, no_values, item, append_values}
use Rattle.std.specs.Borrow.{Bor}
use Rattle.mm_update.specs.declared.draft.Entry.{Entry}
use Rattle.mm_update.specs.Edit.{Edit}
use Rattle.mm_update.specs.Form.{has_path}
use Rattle.mm_update.specs.Drafted.{values_at, entry_on, drafted}

-- the elements from a place of a list on are the one at that place and those behind it
pub first_is : (first : Element) (xs : List Element) (i : ℕ) → i < length xs → first ≡ get_or xs i first → elements_of (drop i xs) ≡ element first.name (tree first.value) (elements_of (drop (i + 1) xs))
first_is first xs i lt e = ap elements_of (drop_more xs i first lt) ∙ ap (λ (y : Element). element y.name (tree y.value) (elements_of (drop (i + 1) xs))) (sym e)

pub none_left : (xs : List Element) (i : ℕ) → length xs ≤ i → elements_of (drop i xs) ≡ no_elements
none_left xs i le = ap elements_of (drop_all i xs le)

pub some_path : (xs : List Element) (d : Elements) → 0 < length xs → elements_of xs ≡ d → has_path (document d) ≡ true
some_path [] d lt e = absurd (omega arith)
some_path (x ∷ xs) d lt e = rw (← e) refl

-- the same of the values of an array, and of the entries of a draft
pub first_value_is : (first : Value) (xs : List Value) (i : ℕ) → i < length xs → first ≡ get_or xs i first → values_of (drop i xs) ≡ item (tree first) (values_of (drop (i + 1) xs))
first_value_is first xs i lt e = ap values_of (drop_more xs i first lt) ∙ ap (λ (y : Value). item (tree y) (values_of (drop (i + 1) xs))) (sym e)

pub no_value_left : (xs : List Value) (i : ℕ) → length xs ≤ i → values_of (drop i xs) ≡ no_values
no_value_left xs i le = ap values_of (drop_all i xs le)

pub first_entry_is : (first : Entry) (xs : List Entry) (i : ℕ) → i < length xs → first ≡ get_or xs i first → drafted (drop i xs) ≡ entry_on first.name.now first.node (drafted (drop (i + 1) xs))
first_entry_is first xs i lt e = ap drafted (drop_more xs i first lt) ∙ ap (λ (y : Entry). entry_on y.name.now y.node (drafted (drop (i + 1) xs))) (sym e)

pub no_entry_left : (xs : List Entry) (i : ℕ) → length xs ≤ i → drafted (drop i xs) ≡ no_elements
no_entry_left xs i le = ap drafted (drop_all i xs le)

pub first_edit_is : (first : Edit) (xs : List Edit) (i : ℕ) → i < length xs → first ≡ get_or xs i first → drop i xs ≡ first ∷ drop (i + 1) xs
first_edit_is first xs i lt e = drop_more xs i first lt ∙ ap (λ (y : Edit). y ∷ drop (i + 1) xs) (sym e)

-- values that references lead to
pub no_value_at : (xs : List (Bor Value)) (i : ℕ) → length xs ≤ i → values_at (drop i xs) ≡ no_values
no_value_at xs i le = ap values_at (drop_all i xs le)

pub values_at-push : (xs : List (Bor Value)) (v : Bor Value) → values_at (xs ++ v ∷ []) ≡ append_values (values_at xs) (item (tree v.now) no_values)
values_at-push [] v = refl
values_at-push (x ∷ xs) v = ap (item (tree x.now)) (values_at-push xs v)

append_values-one : (vs ws : Values) (t : Tree) → append_values (append_values vs (item t no_values)) ws ≡ append_values vs (item t ws)
append_values-one no_values ws t = refl
append_values-one (item u vs) ws t = ap (item u) (append_values-one vs ws t)

append_values-none : (vs : Values) → append_values vs no_values ≡ vs
append_values-none no_values = refl
append_values-none (item u vs) = ap (item u) (append_values-none vs)

module _ (found : List (Bor Value)) (list : List Value) (i : ℕ) (all : Values) (told : append_values (values_at found) (values_of (drop i list)) ≡ all) where
  pub value_on : (first : Value) (v : Bor Value) (more : List (Bor Value)) → i < length list → first ≡ get_or list i first → more ≡ found ++ v ∷ [] → v.now ≡ first → append_values (values_at more) (values_of (drop (i + 1) list)) ≡ all
  value_on first v more lt is grown same =
      let rest : Values = values_of (drop (i + 1) list) in
      let one = ap (λ (x : Value). item (tree x) no_values) same in
      ap (λ (xs : List (Bor Value)). append_values (values_at xs) rest) grown
      ∙ ap (λ (vs : Values). append_values vs rest) (values_at-push found v ∙ ap (append_values (values_at found)) one)
      ∙ append_values-one (values_at found) rest (tree first)
      ∙ ap (append_values (values_at found)) (sym (first_value_is first list i lt is))
      ∙ told

  pub values_done : length list ≤ i → values_at found ≡ all
  values_done le = sym (append_values-none (values_at found)) ∙ ap (append_values (values_at found)) (sym (no_value_left list i le)) ∙ told
