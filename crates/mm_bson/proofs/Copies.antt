-- Copying one after the other.
use Rattle.std.proofs.Common.{◌≡◌, suc, ◌-◌, ◌<◌, List, [], ◌∷◌, ◌++◌, length, get_or, take, drop, sym, ap, ◌∙◌, arith}
use Rattle.std.proofs.lemmas.List.{take_all}
use Rattle.mm_bson.specs.declared.doc.Value.{Value}
use Rattle.mm_bson.specs.Tree.{Values, no_values, item, append_values}
use Rattle.mm_bson.specs.View.{tree, values_of}
use Rattle.mm_bson.proofs.Numbered.{values_of-push, append_values_assoc, append_values-none}

-- what is left behind the first
abbrev pub others : {A : Type 0} → List A → List A
others xs = take (length xs - 1) (drop 1 xs)

others_are : {A : Type 0} (x : A) (xs : List A) → others (x ∷ xs) ≡ xs
others_are x xs =
    let n : suc (length xs) - 1 ≡ length xs = omega arith in
    rw n (take_all (length xs) xs (omega arith))

module _ (done : List Value) (rest : List Value) (all : Values) (so_far : append_values (values_of done) (values_of rest) ≡ all) where
  pub values_on : (first made : Value) (new : List Value) → 0 < length rest → first ≡ get_or rest 0 first → new ≡ done ++ made ∷ [] → tree made ≡ tree first
      → append_values (values_of new) (values_of (others rest)) ≡ all
  values_on first made new some is pushed same = by rest some is so_far
    where
      by : (xs : List Value) → 0 < length xs → first ≡ get_or xs 0 first → append_values (values_of done) (values_of xs) ≡ all → append_values (values_of new) (values_of (others xs)) ≡ all
      by [] lt e told = absurd (omega arith)
      by (x ∷ xs) lt e told =
          let one : tree made ≡ tree x = same ∙ ap tree e in
          rw (others_are x xs, pushed, values_of-push done made, one, append_values_assoc (values_of done) (item (tree x) no_values) (values_of xs)) told

  pub values_done : length rest ≡ 0 → values_of done ≡ all
  values_done none = by rest none so_far
    where
      by : (xs : List Value) → length xs ≡ 0 → append_values (values_of done) (values_of xs) ≡ all → values_of done ≡ all
      by [] e told = sym (append_values-none (values_of done)) ∙ told
      by (x ∷ xs) e told = absurd (omega arith)
