-- A path with more steps than a document may have levels makes a document that is too deep.
use Rattle.std.proofs.Common.{◌≡◌, ℕ, ◌+◌, ◌<◌, ◌≤◌, Bool, true, false, cond, List, [], ◌∷◌, length, Option, Some, None, Ok, Err, inl, inr, ◌⊎◌, refl, ap, ◌∙◌, arith}
use Rattle.std.specs.Prelude.{option_and_then, nat_le, nat_lt}
use Rattle.std.proofs.lemmas.Bool.Decides.{nat_tests}
use Rattle.std.specs.Str.{bytes_eq}
use Rattle.mm_bson.specs.Tree.{Tree, document, Elements, no_elements, element, tree_depth, depth}
use Rattle.mm_bson.specs.Path.{names, find, onward as go, value_at, value_at_path}
use Rattle.mm_bson.specs.Spelling.{spelling}
use Rattle.mm_update.specs.declared.fault.ChangeFault.{ChangeFault}
use Rattle.mm_update.specs.declared.fault.ChangeFault.TheVariants.{TooLong, TooDeep}
use Rattle.mm_update.specs.Edit.{Edit, edits}
use Rattle.mm_update.specs.Edited.{edited, all_edited, Fails}
use Rattle.mm_update.specs.Changed.{finished, changed}
use Rattle.mm_update.specs.Laws.{AreApart}
use Rattle.mm_update.specs.Meeting.{doc_len, IsLong, HasLong}
use Rattle.mm_update.proofs.Kept.{then_ok}
use Rattle.mm_update.proofs.Onward.{Fails-then}
use Rattle.mm_update.proofs.Whole.{all_keep}
use Rattle.mm_update.proofs.Makes.{edit_makes}

find_depth : (n : List ℕ) (es : Elements) (t : Tree) → find n es ≡ Some t → tree_depth t ≤ depth es
find_depth n no_elements t found = absurd cc
find_depth n (element k v es) t found = by (bytes_eq k n) found (λ later. find_depth n es t later)
  where
    by : (b : Bool) → cond b (Some v) (find n es) ≡ Some t → (find n es ≡ Some t → tree_depth t ≤ depth es) → tree_depth t ≤ depth (element k v es)
    by true here later =
        let same : v ≡ t = cc in
        omega (arith, ap tree_depth same)
    by false there later = omega (arith, later there)

some_inside : (n m : List ℕ) (ms : List (List ℕ)) (es : Elements) (v : Tree) → value_at (n ∷ m ∷ ms) es ≡ Some v → (inner : Elements) × (find n es ≡ Some (document inner)) × (value_at (m ∷ ms) inner ≡ Some v)
some_inside n m ms es v e = by (find n es) refl e
  where
    by : (o : Option Tree) → find n es ≡ o → option_and_then (go (m ∷ ms) (value_at (m ∷ ms))) o ≡ Some v → (inner : Elements) × (find n es ≡ Some (document inner)) × (value_at (m ∷ ms) inner ≡ Some v)
    by None found e = absurd cc
    by (Some (document inner)) found e = (inner, found, e)
    by (Some _) found e = absurd cc

-- what stands at a path lies as deep as the path has steps
deep_at : (ns : List (List ℕ)) (es : Elements) (v : Tree) → value_at ns es ≡ Some v → length ns ≤ depth es + 1
deep_at [] es v e = absurd cc
deep_at (n ∷ []) es v e = omega arith
deep_at (n ∷ m ∷ ms) es v e =
    let inside = some_inside n m ms es v e in
    omega (arith, deep_at (m ∷ ms) inside.0 v inside.2, find_depth n es (document inside.0) inside.1)

long_deep : (es : List Edit) (old new : Elements) → AreApart es → HasLong es → all_edited es old ≡ Ok new → 100 ≤ depth new
long_deep [] old new apart long is = absurd long
long_deep (e ∷ es) old new apart long is =
    let step = then_ok (all_edited es) (edited e old) new is in
    by long step.0 step.1 step.2 (λ later. long_deep es step.0 new apart.1 later step.2)
  where
    by : IsLong e ⊎ HasLong es → (middle : Elements) → edited e old ≡ Ok middle → all_edited es middle ≡ Ok new → (HasLong es → 100 ≤ depth new) → 100 ≤ depth new
    by (inr after) middle here rest later = later after
    by (inl long) middle here rest later =
        let found = edit_makes e.operator e.path e.operand old middle long.0 here in
        let there : value_at_path e.path new ≡ Some found.0 = all_keep es middle new e.path rest apart.0 ∙ found.2 in
        omega (arith, deep_at (names e.path) new found.0 there, long.1)

le_false : (a b : ℕ) → b < a → nat_le a b ≡ false
le_false a b lt = grind (arith, nat_tests)

le_true : (a b : ℕ) → a ≤ b → nat_le a b ≡ true
le_true a b le = grind (arith, nat_tests)

lt_false : (a b : ℕ) → b ≤ a → nat_lt a b ≡ false
lt_false a b le = grind (arith, nat_tests)

module _ (es : List Edit) (old : Elements) where
  pub first_refused : (f : ChangeFault) → Fails f (all_edited es old) → Fails f (changed (edits es) old)
  first_refused f h = Fails-then finished f (all_edited es old) h

  module _ (len : ℕ) (g : (new : Elements) × (all_edited es old ≡ Ok new) × (doc_len new ≡ len)) where
    pub long_refused : 0x100_0000 < len → changed (edits es) old ≡ Err (TooLong len)
    long_refused lt =
        let long : nat_le (length (spelling g.0)) 0x100_0000 ≡ false = le_false (length (spelling g.0)) 0x100_0000 (omega (arith, g.2, lt)) in
        rw (g.1, long) (ap (λ (n : ℕ). Err (TooLong n)) g.2)

    pub deep_refused : AreApart es → HasLong es → len ≤ 0x100_0000 → changed (edits es) old ≡ Err TooDeep
    deep_refused apart has le =
        let short : nat_le (length (spelling g.0)) 0x100_0000 ≡ true = le_true (length (spelling g.0)) 0x100_0000 (omega (arith, g.2, le)) in
        let deep : nat_lt (depth g.0) 100 ≡ false = lt_false (depth g.0) 100 (long_deep es old g.0 apart has g.1) in
        rw (g.1, short, deep) refl
