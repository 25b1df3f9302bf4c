-- Changes by one operator.
use Rattle.std.proofs.Common.{◌≡◌, ℕ, ℤ, ◌+ℤ◌, Bool, true, false, cond, List, [], ◌∷◌, Option, Some, None, Ok, Err, refl, sym, ap, ◌∙◌}
use Rattle.std.specs.Prelude.{option_and_then, codes}
use Rattle.std.specs.Str.{bytes_eq}
use Rattle.mm_bson.specs.Tree.{Tree, int32, int64, document, array, Elements, no_elements, element, no_values, item}
use Rattle.mm_bson.specs.Path.{names, find, onward as go, value_at, value_at_path}
use Rattle.mm_update.specs.declared.fault.ChangeFault.TheVariants.{IncOverflow}
use Rattle.mm_update.specs.Edit.{Edit, Plan, replacement, edits, plan}
use Rattle.mm_update.specs.Edited.{Outcome, with_value, without, inside_only, removed, fits_32, fits_64, wide, sum, value_by, edited, all_edited}
use Rattle.mm_update.specs.Changed.{finished, changed}
use Rattle.mm_update.proofs.Kept.{then_ok}
use Rattle.mm_update.proofs.Steps.{some_step}
use Rattle.mm_update.proofs.Whole.{finished_same}
use Rattle.mm_update.proofs.Makes.{edit_makes}
use Rattle.mm_laws.specs.Changing.{change_by, Makes, IncPuts, PushMakesArray, UnsetLeaves, NarrowStays, NarrowWidens, WideStays, OperandWidens}

-- ---- the one edit of such a change

abbrev OneEdit : Plan → Type 0
OneEdit (edits (e ∷ [])) = Edit
OneEdit _ = Unit {0}

abbrev one_edit : (p : Plan) → OneEdit p
one_edit (replacement es) = tt
one_edit (edits []) = tt
one_edit (edits (e ∷ [])) = e
one_edit (edits (e ∷ f ∷ es)) = tt

one_edited : (e : Edit) (old new : Elements) → changed (edits (e ∷ [])) old ≡ Ok new → edited e old ≡ Ok new
one_edited e old new h =
    let done = then_ok finished (all_edited (e ∷ []) old) new h in
    let step = then_ok (all_edited []) (edited e old) done.0 done.1 in
    let same : step.0 ≡ done.0 = cc in
    step.1 ∙ ap put (same ∙ finished_same done.0 new done.2)
  where
    put : Elements → Outcome Elements
    put es = Ok es

abbrev tree_ok : Tree → Outcome Tree
tree_ok t = Ok t

tree_is : (t u : Tree) → tree_ok t ≡ Ok u → u ≡ t
tree_is t u h = cc

-- what $inc makes of the old value there
inc_makes : (path : List ℕ) (t : Tree) (old new : Elements) (o : Option Tree) (made : Tree) → Makes (codes "$inc") path t old new → value_at_path path old ≡ o
    → value_by (one_edit (plan (change_by (codes "$inc") path t))).operator path t o ≡ tree_ok made → value_at_path path new ≡ Some made
inc_makes path t old new o made h there value =
    let e : Edit = one_edit (plan (change_by (codes "$inc") path t)) in
    let m = edit_makes e.operator path t old new (λ same. absurd cc) (one_edited e old new h) in
    let same : m.0 ≡ made = tree_is made m.0 (sym value ∙ ap (value_by e.operator path t) (sym there) ∙ m.1) in
    m.2 ∙ ap (λ (u : Tree). Some u) same

push_makes : (path : List ℕ) (t : Tree) (old new : Elements) (o : Option Tree) (made : Tree) → Makes (codes "$push") path t old new → value_at_path path old ≡ o
    → value_by (one_edit (plan (change_by (codes "$push") path t))).operator path t o ≡ tree_ok made → value_at_path path new ≡ Some made
push_makes path t old new o made h there value =
    let e : Edit = one_edit (plan (change_by (codes "$push") path t)) in
    let m = edit_makes e.operator path t old new (λ same. absurd cc) (one_edited e old new h) in
    let same : m.0 ≡ made = tree_is made m.0 (sym value ∙ ap (value_by e.operator path t) (sym there) ∙ m.1) in
    m.2 ∙ ap (λ (u : Tree). Some u) same

pub inc_puts : IncPuts
inc_puts path t old new h there = inc_makes path t old new None t h there refl

pub push_makes_array : PushMakesArray
push_makes_array path t old new h there = push_makes path t old new None (array (item t no_values)) h there refl

-- ---- the width of a sum

-- what came of a sum, whatever it was
inc_sums : (path : List ℕ) (t u : Tree) (old new : Elements) (made : Tree) → Makes (codes "$inc") path t old new → value_at_path path old ≡ Some u → ((v : Tree) → sum path u t ≡ tree_ok v → v ≡ made) → value_at_path path new ≡ Some made
inc_sums path t u old new made h there only =
    let e : Edit = one_edit (plan (change_by (codes "$inc") path t)) in
    let m = edit_makes e.operator path t old new (λ same. absurd cc) (one_edited e old new h) in
    let summed : sum path u t ≡ tree_ok m.0 = ap (value_by e.operator path t) (sym there) ∙ m.1 in
    m.2 ∙ ap (λ (v : Tree). Some v) (only m.0 summed)

wide_is : (path : List ℕ) (z : ℤ) (v : Tree) → wide path z ≡ tree_ok v → v ≡ int64 z
wide_is path z v h = by (fits_64 z) h
  where
    by : (b : Bool) → cond b (tree_ok (int64 z)) (Err (IncOverflow path)) ≡ tree_ok v → v ≡ int64 z
    by true p = tree_is (int64 z) v p
    by false p = absurd cc

pub narrow_stays : NarrowStays
narrow_stays path x y old new h there fits = inc_sums path (int32 y) (int32 x) old new (int32 (x +ℤ y)) h there (λ v p. by (fits_32 (x +ℤ y)) v fits p)
  where
    by : (b : Bool) (v : Tree) → b ≡ true → cond b (tree_ok (int32 (x +ℤ y))) (wide path (x +ℤ y)) ≡ tree_ok v → v ≡ int32 (x +ℤ y)
    by true v t p = tree_is (int32 (x +ℤ y)) v p
    by false v t p = absurd cc

pub narrow_widens : NarrowWidens
narrow_widens path x y old new h there above = inc_sums path (int32 y) (int32 x) old new (int64 (x +ℤ y)) h there (λ v p. by (fits_32 (x +ℤ y)) v above p)
  where
    by : (b : Bool) (v : Tree) → b ≡ false → cond b (tree_ok (int32 (x +ℤ y))) (wide path (x +ℤ y)) ≡ tree_ok v → v ≡ int64 (x +ℤ y)
    by true v t p = absurd cc
    by false v t p = wide_is path (x +ℤ y) v p

pub wide_stays : WideStays
wide_stays path (int32 b) x y old new h there is =
    let same : b ≡ y = cc in
    inc_sums path (int32 b) (int64 x) old new (int64 (x +ℤ y)) h there (λ v p. wide_is path (x +ℤ b) v p ∙ ap (λ (z : ℤ). int64 (x +ℤ z)) same)
wide_stays path (int64 b) x y old new h there is =
    let same : b ≡ y = cc in
    inc_sums path (int64 b) (int64 x) old new (int64 (x +ℤ y)) h there (λ v p. wide_is path (x +ℤ b) v p ∙ ap (λ (z : ℤ). int64 (x +ℤ z)) same)
wide_stays path _ x y old new h there is = absurd cc

pub operand_widens : OperandWidens
operand_widens path (int32 a) x y old new h there is =
    let same : a ≡ x = cc in
    inc_sums path (int64 y) (int32 a) old new (int64 (x +ℤ y)) h there (λ v p. wide_is path (a +ℤ y) v p ∙ ap (λ (z : ℤ). int64 (z +ℤ y)) same)
operand_widens path (int64 a) x y old new h there is =
    let same : a ≡ x = cc in
    inc_sums path (int64 y) (int64 a) old new (int64 (x +ℤ y)) h there (λ v p. wide_is path (a +ℤ y) v p ∙ ap (λ (z : ℤ). int64 (z +ℤ y)) same)
operand_widens path _ x y old new h there is = absurd cc

-- ---- $unset

without-none : (name : List ℕ) (es : Elements) → find name es ≡ None → without name es ≡ es
without-none name no_elements h = refl
without-none name (element n t es) h = by (bytes_eq n name) (λ rest. without-none name es rest) h
  where
    by : (b : Bool) → (find name es ≡ None → without name es ≡ es) → cond b (Some t) (find name es) ≡ None → cond b es (element n t (without name es)) ≡ element n t es
    by true later p = absurd cc
    by false later p = ap (element n t) (later p)

with-same : (name : List ℕ) (t : Tree) (es : Elements) → find name es ≡ Some t → with_value name t es ≡ es
with-same name t no_elements h = absurd cc
with-same name t (element n u es) h = by (bytes_eq n name) (λ rest. with-same name t es rest) h
  where
    by : (b : Bool) → (find name es ≡ Some t → with_value name t es ≡ es) → cond b (Some u) (find name es) ≡ Some t → cond b (element n t es) (element n u (with_value name t es)) ≡ element n u es
    by true later p =
        let same : u ≡ t = cc in
        ap (λ (v : Tree). element n v es) (sym same)
    by false later p = ap (element n u) (later p)

found_alone : (o : Option Tree) → option_and_then (go [] (value_at [])) o ≡ None → o ≡ None
found_alone None h = refl
found_alone (Some t) h = absurd cc

removed_nothing : (n : List ℕ) (ns : List (List ℕ)) (es : Elements) → value_at (n ∷ ns) es ≡ None → removed (n ∷ ns) es ≡ es
removed_nothing n [] es h = without-none n es (found_alone (find n es) h)
removed_nothing n (m ∷ ms) es h = by (find n es) refl h (λ inner p. removed_nothing m ms inner p)
  where
    by : (o : Option Tree) → find n es ≡ o → option_and_then (go (m ∷ ms) (value_at (m ∷ ms))) o ≡ None → ((inner : Elements) → value_at (m ∷ ms) inner ≡ None → removed (m ∷ ms) inner ≡ inner)
        → inside_only n (removed (m ∷ ms)) es o ≡ es
    by None none p later = refl
    by (Some (document inner)) found p later = ap (λ (d : Elements). with_value n (document d) es) (later inner p) ∙ with-same n (document inner) es found
    by (Some _) found p later = refl

pub unset_leaves : UnsetLeaves
unset_leaves path t old new h there =
    let e : Edit = one_edit (plan (change_by (codes "$unset") path t)) in
    let some = some_step path in
    let same : removed (names path) old ≡ new = all_is (removed (names path) old) new (one_edited e old new h) in
    let kept : removed (names path) old ≡ old = rw some.2 (removed_nothing some.0 some.1 old (rw some.2 at there)) in
    sym same ∙ kept
  where
    put : Elements → Outcome Elements
    put es = Ok es

    all_is : (x y : Elements) → put x ≡ Ok y → x ≡ y
    all_is x y p = cc
