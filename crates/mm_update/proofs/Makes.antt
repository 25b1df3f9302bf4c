-- What each operator makes, read again at its path.
use Rattle.std.proofs.Common.{◌≡◌, ◌≢◌, ℕ, ℤ, ◌+ℤ◌, Bool, true, false, cond, List, [], ◌∷◌, Option, Some, None, Ok, Err, inl, inr, ◌⊎◌, refl, sym, ap, ◌∙◌}
use Rattle.std.specs.Prelude.{option_and_then}
use Rattle.std.specs.Str.{bytes_eq}
use Rattle.mm_bson.specs.Tree.{Tree, int32, int64, document, array, Elements, no_elements, element, no_values, item, append, append_values}
use Rattle.mm_bson.specs.Path.{names, find, onward as go, value_at, value_at_path}
use Rattle.mm_update.specs.declared.fault.ChangeFault.TheVariants.{ChangesId, IncOverflow}
use Rattle.mm_update.specs.declared.step.Operator.{Operator}
use Rattle.mm_update.specs.declared.step.Operator.TheVariants.{Set, Unset, Inc, Push}
use Rattle.mm_update.specs.Paths.{leads, overlap, overlaps_any, id_name}
use Rattle.mm_update.specs.Edit.{Edit, paths}
use Rattle.mm_update.specs.Edited.{Outcome, and_then, with_value, without, opened, onward, put, inside_only, removed, fits_32, fits_64, wide, sum, value_by, edit_by, edited, all_edited}
use Rattle.mm_update.specs.Changed.{finished, keeps_id, id_field, other_fields, replaced}
use Rattle.mm_update.specs.Laws.{AreApart, IsAmong, MakesValue, number, AddsNumbers, PushesBehind, StandsOnce, TakesOut, Replaces}
use Rattle.mm_update.proofs.Steps.{some_step}
use Rattle.mm_update.proofs.Fields.{find-with_value}
use Rattle.mm_update.proofs.Kept.{mapped_ok, then_ok, same_name, inner_of}
use Rattle.mm_update.proofs.Whole.{or_left, or_right, or_swap, by_operator, all_keep, finished_same}

found_alone : (o : Option Tree) → option_and_then (go [] (value_at [])) o ≡ o
found_alone None = refl
found_alone (Some t) = refl

-- ---- a value that is put

put_makes : (path : List ℕ) (value : Option Tree → Outcome Tree) (n : List ℕ) (ns : List (List ℕ)) (es new : Elements) → put path value (n ∷ ns) es ≡ Ok new
    → (u : Tree) × (value (value_at (n ∷ ns) es) ≡ Ok u) × (value_at (n ∷ ns) new ≡ Some u)
put_makes path value n [] es new e =
    let made = mapped_ok (λ t. with_value n t es) (value (find n es)) new e in
    (made.0, ap value (found_alone (find n es)) ∙ made.1, ap (value_at (n ∷ [])) (sym made.2) ∙ ap (option_and_then (go [] (value_at []))) (find-with_value n made.0 es))
put_makes path value n (m ∷ ns) es new e =
    let made = mapped_ok (λ t. with_value n t es) (onward path (m ∷ ns) value (put path value (m ∷ ns)) (find n es)) new e in
    let doc = mapped_ok document (and_then (put path value (m ∷ ns)) (opened path (find n es))) made.0 made.1 in
    let inner = then_ok (put path value (m ∷ ns)) (opened path (find n es)) doc.0 doc.1 in
    let later = put_makes path value m ns inner.0 doc.0 inner.2 in
    let there : find n new ≡ Some (document doc.0) = ap (find n) (sym made.2) ∙ find-with_value n made.0 es ∙ ap (λ (t : Tree). Some t) (sym doc.2) in
    (later.0, ap value (inner_of path (find n es) inner.0 m ns inner.1) ∙ later.1, ap (option_and_then (go (m ∷ ns) (value_at (m ∷ ns)))) there ∙ later.2)

path_makes : (path : List ℕ) (value : Option Tree → Outcome Tree) (es new : Elements) → put path value (names path) es ≡ Ok new
    → (u : Tree) × (value (value_at_path path es) ≡ Ok u) × (value_at_path path new ≡ Some u)
path_makes path value es new e =
    let some = some_step path in
    rw some.2 (put_makes path value some.0 some.1 es new (rw some.2 at e))

pub edit_makes : (operator : Operator) (path : List ℕ) (t : Tree) (es new : Elements) → operator ≢ Unset → edit_by operator path t es ≡ Ok new
    → (u : Tree) × (value_by operator path t (value_at_path path es) ≡ Ok u) × (value_at_path path new ≡ Some u)
edit_makes Unset path t es new h e = absurd (h refl)
edit_makes Set path t es new h e = path_makes path (value_by Set path t) es new e
edit_makes Inc path t es new h e = path_makes path (value_by Inc path t) es new e
edit_makes Push path t es new h e = path_makes path (value_by Push path t) es new e

among_apart : (es : List Edit) (x : Edit) (q : List ℕ) → overlaps_any (paths es) q ≡ false → IsAmong x es → overlap q x.path ≡ false
among_apart [] x q apart among = absurd among
among_apart (y ∷ es) x q apart (inl same) =
    let here : overlap q y.path ≡ false = or_swap (leads (names y.path) (names q)) (leads (names q) (names y.path)) (or_left (overlap y.path q) (overlaps_any (paths es) q) apart) in
    ap (λ (z : Edit). overlap q z.path) same ∙ here
among_apart (y ∷ es) x q apart (inr after) = among_apart es x q (or_right (overlap y.path q) (overlaps_any (paths es) q) apart) after

all_make : (es : List Edit) (x : Edit) (old new : Elements) → AreApart es → IsAmong x es → x.operator ≢ Unset → all_edited es old ≡ Ok new
    → (u : Tree) × (value_by x.operator x.path x.operand (value_at_path x.path old) ≡ Ok u) × (value_at_path x.path new ≡ Some u)
all_make [] x old new apart among h e = absurd among
all_make (first ∷ es) x old new apart among h e =
    let step = then_ok (all_edited es) (edited first old) new e in
    by among step.0 step.1 step.2 (λ later. all_make es x step.0 new apart.1 later h step.2)
  where
    by : (x ≡ first) ⊎ IsAmong x es → (middle : Elements) → edited first old ≡ Ok middle → all_edited es middle ≡ Ok new
        → (IsAmong x es → (u : Tree) × (value_by x.operator x.path x.operand (value_at_path x.path middle) ≡ Ok u) × (value_at_path x.path new ≡ Some u))
        → (u : Tree) × (value_by x.operator x.path x.operand (value_at_path x.path old) ≡ Ok u) × (value_at_path x.path new ≡ Some u)
    by (inl same) middle here rest later =
        let made = edit_makes x.operator x.path x.operand old middle h (ap (λ (y : Edit). edited y old) same ∙ here) in
        let apart_x : overlaps_any (paths es) x.path ≡ false = ap (λ (y : Edit). overlaps_any (paths es) y.path) same ∙ apart.0 in
        (made.0, made.1, all_keep es middle new x.path rest apart_x ∙ made.2)
    by (inr after) middle here rest later =
        let told = later after in
        let kept : value_at_path x.path middle ≡ value_at_path x.path old = by_operator first.operator first.path first.operand x.path old middle here (among_apart es x first.path apart.0 after) in
        (told.0, ap (value_by x.operator x.path x.operand) (sym kept) ∙ told.1, told.2)

pub makes_value : MakesValue
makes_value es e old new apart among h is =
    let done = then_ok finished (all_edited es old) new is in
    let made = all_make es e old done.0 apart among h done.1 in
    (made.0, made.1, ap (value_at_path e.path) (sym (finished_same done.0 new done.2)) ∙ made.2)

-- ---- $inc and $push

wide_number : (path : List ℕ) (z : ℤ) (u : Tree) → wide path z ≡ Ok u → number u ≡ Some z
wide_number path z u e = by (fits_64 z) e
  where
    by : (b : Bool) → cond b (Ok (int64 z)) (Err (IncOverflow path)) ≡ Ok u → number u ≡ Some z
    by true e =
        let same : int64 z ≡ u = cc in
        ap number (sym same)
    by false e = absurd cc

narrow_number : (path : List ℕ) (z : ℤ) (u : Tree) → cond (fits_32 z) (Ok (int32 z)) (wide path z) ≡ Ok u → number u ≡ Some z
narrow_number path z u e = by (fits_32 z) e
  where
    by : (b : Bool) → cond b (Ok (int32 z)) (wide path z) ≡ Ok u → number u ≡ Some z
    by true e =
        let same : int32 z ≡ u = cc in
        ap number (sym same)
    by false e = wide_number path z u e

sum_number : (path : List ℕ) (t v u : Tree) (x y : ℤ) → number t ≡ Some x → number v ≡ Some y → sum path t v ≡ Ok u → number u ≡ Some (x +ℤ y)
sum_number path (int32 a) (int32 b) u x y left right e =
    let one : a ≡ x = cc in
    let two : b ≡ y = cc in
    rw (← one, ← two) (narrow_number path (a +ℤ b) u e)
sum_number path (int32 a) (int64 b) u x y left right e =
    let one : a ≡ x = cc in
    let two : b ≡ y = cc in
    rw (← one, ← two) (wide_number path (a +ℤ b) u e)
sum_number path (int64 a) (int32 b) u x y left right e =
    let one : a ≡ x = cc in
    let two : b ≡ y = cc in
    rw (← one, ← two) (wide_number path (a +ℤ b) u e)
sum_number path (int64 a) (int64 b) u x y left right e =
    let one : a ≡ x = cc in
    let two : b ≡ y = cc in
    rw (← one, ← two) (wide_number path (a +ℤ b) u e)
sum_number path _ _ u x y left right e = absurd cc

pub adds_numbers : AddsNumbers
adds_numbers es e old new t x y apart among inc is there left right =
    let made = makes_value es e old new apart among (λ unset. absurd cc) is in
    let by_sum : sum e.path t e.operand ≡ Ok made.0 = sym (ap (λ (operator : Operator). value_by operator e.path e.operand (Some t)) inc) ∙ ap (value_by e.operator e.path e.operand) (sym there) ∙ made.1 in
    (made.0, made.2, sum_number e.path t e.operand made.0 x y left right by_sum)

pub pushes_behind : PushesBehind
pushes_behind es e old new vs apart among push is there =
    let made = makes_value es e old new apart among (λ unset. absurd cc) is in
    let behind : Ok (array (append_values vs (item e.operand no_values))) ≡ Ok made.0 = sym (ap (λ (operator : Operator). value_by operator e.path e.operand (Some (array vs))) push) ∙ ap (value_by e.operator e.path e.operand) (sym there) ∙ made.1 in
    let same : array (append_values vs (item e.operand no_values)) ≡ made.0 = cc in
    made.2 ∙ ap (λ (u : Tree). Some u) (sym same)

-- ---- $unset

removed_none : (n : List ℕ) (ns : List (List ℕ)) (es : Elements) → StandsOnce (n ∷ ns) es → value_at (n ∷ ns) (removed (n ∷ ns) es) ≡ None
removed_none n [] es once = found_alone (find n (without n es)) ∙ once
removed_none n (m ∷ ms) es once = by (find n es) refl (λ inner found. removed_none m ms inner (once inner found))
  where
    by : (o : Option Tree) → find n es ≡ o → ((inner : Elements) → find n es ≡ Some (document inner) → value_at (m ∷ ms) (removed (m ∷ ms) inner) ≡ None)
        → option_and_then (go (m ∷ ms) (value_at (m ∷ ms))) (find n (inside_only n (removed (m ∷ ms)) es o)) ≡ None
    by None none later = ap (option_and_then (go (m ∷ ms) (value_at (m ∷ ms)))) none
    by (Some (document inner)) found later = ap (option_and_then (go (m ∷ ms) (value_at (m ∷ ms)))) (find-with_value n (document (removed (m ∷ ms) inner)) es) ∙ later inner found
    by (Some _) found later = ap (option_and_then (go (m ∷ ms) (value_at (m ∷ ms)))) found

pub takes_out : TakesOut
takes_out e es old new apart unset once is =
    let some = some_step e.path in
    let done = then_ok finished (all_edited (e ∷ es) old) new is in
    let step = then_ok (all_edited es) (edited e old) done.0 done.1 in
    let gone : Ok (removed (names e.path) old) ≡ Ok step.0 = sym (ap (λ (operator : Operator). edit_by operator e.path e.operand old) unset) ∙ step.1 in
    let same : removed (names e.path) old ≡ step.0 = cc in
    let none : value_at_path e.path (removed (names e.path) old) ≡ None = rw some.2 (removed_none some.0 some.1 old (rw some.2 at once)) in
    ap (value_at_path e.path) (sym (finished_same done.0 new done.2)) ∙ all_keep es step.0 done.0 e.path step.2 apart.0 ∙ ap (value_at_path e.path) (sym same) ∙ none

-- ---- replacements

others_found : (name : List ℕ) (es : Elements) → bytes_eq id_name name ≡ false → find name (other_fields es) ≡ find name es
others_found name no_elements other = refl
others_found name (element n t es) other = by (bytes_eq n id_name) refl (others_found name es other)
  where
    by : (b : Bool) → bytes_eq n id_name ≡ b → find name (other_fields es) ≡ find name es → find name (cond b (other_fields es) (element n t (other_fields es))) ≡ cond (bytes_eq n name) (Some t) (find name es)
    by true is later =
        let apart : bytes_eq n name ≡ false = ap (λ (x : List ℕ). bytes_eq x name) (same_name n id_name is) ∙ other in
        rw apart later
    by false is later = ap (cond (bytes_eq n name) (Some t)) later

pub replaces : Replaces
replaces change old new name is other =
    let done = then_ok finished (replaced change old) new is in
    ap (find name) (sym (finished_same done.0 new done.2)) ∙ by (keeps_id (find id_name old) change) (find id_name old) done.0 done.1
  where
    by : (b : Bool) (o : Option Tree) (d : Elements) → cond b (Ok (append (id_field o) (other_fields change))) (Err ChangesId) ≡ Ok d → find name d ≡ find name change
    by true None d e =
        let same : other_fields change ≡ d = cc in
        ap (find name) (sym same) ∙ others_found name change other
    by true (Some t) d e =
        let same : element id_name t (other_fields change) ≡ d = cc in
        ap (find name) (sym same) ∙ rw other (others_found name change other)
    by false o d e = absurd cc
