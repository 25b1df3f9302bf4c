-- The laws of whole changes.
use Rattle.std.proofs.Common.{◌≡◌, ℕ, Bool, true, false, cond, List, [], ◌∷◌, ◌++◌, Option, Some, None, Ok, Err, inl, inr, ◌⊎◌, refl, sym, ap, ◌∙◌}
use Rattle.std.specs.Prelude.{option_and_then, ◌&&◌, ◌||◌, nat_le, nat_lt, length, not}
use Rattle.mm_bson.specs.Spelling.{spelling}
use Rattle.mm_update.specs.declared.fault.ChangeFault.TheVariants.{BadChange, ChangesId, NotNumber, TooLong, TooDeep}
use Rattle.std.specs.Str.{bytes_eq}
use Rattle.mm_update.specs.declared.fault.ChangeFault.{ChangeFault}
use Rattle.mm_update.specs.declared.step.Operator.{Operator}
use Rattle.mm_update.specs.declared.step.Operator.TheVariants.{Set, Unset, Inc, Push}
use Rattle.mm_bson.specs.Tree.{Tree, Elements, no_elements, element, append, depth}
use Rattle.mm_bson.specs.Path.{names, find, onward as go, value_at, value_at_path}
use Rattle.mm_update.specs.Paths.{leads, overlap, overlaps_any, id_name, is_id, has_dollar, has_empty_step}
use Rattle.mm_update.specs.Edit.{Edit, Plan, replacement, edits, plan, paths, edits_in, edits_of, operator_of}
use Rattle.mm_update.specs.Form.{Place, field, entry, entries, entries_in, places, needs_number, is_number, wrong_field, wrong_edit, or_else, first_wrong, first_operator, form}
use Rattle.mm_update.specs.Edited.{edit_by, edited, all_edited, value_by, removed}
use Rattle.mm_update.specs.Changed.{finished, changed, replaced, keeps_id, id_field, other_fields}
use Rattle.mm_update.specs.Laws.{KeepsId, KeepsOthers, SetsValue, FormsApart, AreApart, IsAmong}
use Rattle.mm_update.proofs.Steps.{some_step}
use Rattle.mm_update.proofs.Fields.{bytes_same}
use Rattle.mm_update.proofs.Kept.{same_name, then_ok, put_keeps, removed_keeps, put_reads}
use Rattle.mm_update.proofs.Walk.{entries_are, field_first, first_wrong-entries}

pub or_left : (a b : Bool) → (a || b) ≡ false → a ≡ false
or_left true b e = e
or_left false b e = refl

pub or_right : (a b : Bool) → (a || b) ≡ false → b ≡ false
or_right true b e = absurd cc
or_right false b e = e

pub or_swap : (a b : Bool) → (a || b) ≡ false → (b || a) ≡ false
or_swap true b e = absurd cc
or_swap false b e = rw e refl

-- ---- other paths

pub by_operator : (operator : Operator) (path : List ℕ) (t : Tree) (q : List ℕ) (es new : Elements) → edit_by operator path t es ≡ Ok new → overlap path q ≡ false → value_at_path q new ≡ value_at_path q es
by_operator Unset path t q es new e apart =
    let same : removed (names path) es ≡ new = cc in
    ap (value_at (names q)) (sym same) ∙ removed_keeps (names path) (names q) es (or_left _ _ apart) (or_right (leads (names path) (names q)) _ apart)
by_operator Set path t q es new e apart = put_keeps path (value_by Set path t) (names path) (names q) es new e (or_left _ _ apart) (or_right (leads (names path) (names q)) _ apart)
by_operator Inc path t q es new e apart = put_keeps path (value_by Inc path t) (names path) (names q) es new e (or_left _ _ apart) (or_right (leads (names path) (names q)) _ apart)
by_operator Push path t q es new e apart = put_keeps path (value_by Push path t) (names path) (names q) es new e (or_left _ _ apart) (or_right (leads (names path) (names q)) _ apart)

pub all_keep : (es : List Edit) (old new : Elements) (q : List ℕ) → all_edited es old ≡ Ok new → overlaps_any (paths es) q ≡ false → value_at_path q new ≡ value_at_path q old
all_keep [] old new q e apart =
    let same : old ≡ new = cc in
    ap (value_at_path q) (sym same)
all_keep (x ∷ es) old new q e apart =
    let step = then_ok (all_edited es) (edited x old) new e in
    all_keep es step.0 new q step.2 (or_right (overlap x.path q) _ apart) ∙ by_operator x.operator x.path x.operand q old step.0 step.1 (or_left _ _ apart)

pub finished_same : (d new : Elements) → finished d ≡ Ok new → d ≡ new
finished_same d new e = by (nat_le (length (spelling d)) 0x100_0000) (nat_lt (depth d) 100) e
  where
    by : (short shallow : Bool) → cond short (cond shallow (Ok d) (Err TooDeep)) (Err (TooLong (length (spelling d)))) ≡ Ok new → d ≡ new
    by true true e = cc
    by true false e = absurd cc
    by false shallow e = absurd cc

pub keeps_others : KeepsOthers
keeps_others es old new q e apart =
    let done = then_ok finished (all_edited es old) new e in
    ap (value_at_path q) (sym (finished_same done.0 new done.2)) ∙ all_keep es old done.0 q done.1 apart

-- ---- values that are set

set_reads : (x : Edit) (old new : Elements) → x.operator ≡ Set → edited x old ≡ Ok new → value_at_path x.path new ≡ Some x.operand
set_reads x old new is e =
    let some = some_step x.path in
    let put_is = ap (λ (operator : Operator). edit_by operator x.path x.operand old) (sym is) ∙ e in
    rw some.2 (put_reads x.path (value_by Set x.path x.operand) x.operand some.0 some.1 old new (λ o. refl) (rw some.2 at put_is))

all_set : (es : List Edit) (x : Edit) (old new : Elements) → AreApart es → IsAmong x es → x.operator ≡ Set → all_edited es old ≡ Ok new → value_at_path x.path new ≡ Some x.operand
all_set [] x old new apart among is e = absurd among
all_set (first ∷ es) x old new apart among is e =
    let step = then_ok (all_edited es) (edited first old) new e in
    by among step.0 step.1 step.2 (λ later. all_set es x step.0 new apart.1 later is step.2)
  where
    by : (x ≡ first) ⊎ IsAmong x es → (middle : Elements) → edited first old ≡ Ok middle → all_edited es middle ≡ Ok new → (IsAmong x es → value_at_path x.path new ≡ Some x.operand) → value_at_path x.path new ≡ Some x.operand
    by (inl same) middle here rest later =
        let apart_x : overlaps_any (paths es) x.path ≡ false = ap (λ (y : Edit). overlaps_any (paths es) y.path) same ∙ apart.0 in
        all_keep es middle new x.path rest apart_x ∙ set_reads x old middle is (ap (λ (y : Edit). edited y old) same ∙ here)
    by (inr after) middle here rest later = later after

pub sets_value : SetsValue
sets_value es x old new apart among is e =
    let done = then_ok finished (all_edited es old) new e in
    ap (value_at_path x.path) (sym (finished_same done.0 new done.2)) ∙ all_set es x old done.0 apart among is done.1

-- ---- forms

or_none : (a b : Option ChangeFault) → or_else a b ≡ None → (a ≡ None) × (b ≡ None)
or_none None b e = (refl, e)
or_none (Some f) b e = absurd cc

entries-append : (a b : List Edit) → entries (a ++ b) ≡ entries a ++ entries b
entries-append [] b = refl
entries-append (e ∷ a) b = ap (λ (ps : List Place). entry e ∷ ps) (entries-append a b)

-- where nothing is wrong in the fields, nothing is in the edits
walked : (c : Elements) (earlier : List (List ℕ)) → first_wrong earlier (places c) ≡ None → first_wrong earlier (entries (edits_of c)) ≡ None
walked no_elements earlier e = refl
walked (element n t c) earlier e =
    let es : List Edit = edits_in (operator_of n) t in
    let whole = or_none (first_wrong earlier (field n t ∷ entries_in (operator_of n) t)) (first_wrong (earlier ++ paths es) (places c)) (sym (field_first earlier n t (places c)) ∙ e) in
    let here = or_none (wrong_field n t) (first_wrong earlier (entries_in (operator_of n) t)) whole.0 in
    let first : first_wrong earlier (entries es) ≡ None = ap (first_wrong earlier) (sym (entries_are (operator_of n) t)) ∙ here.1 in
    ap (first_wrong earlier) (entries-append es (edits_of c)) ∙ first_wrong-entries es earlier (entries (edits_of c)) ∙ rw (first, walked c (earlier ++ paths es) whole.1) refl

-- each edit is apart from these paths, and none is for the _id
abbrev ArePast : List (List ℕ) → List Edit → Type 0
ArePast earlier [] = Unit {0}
ArePast earlier (e ∷ es) = (overlaps_any earlier e.path ≡ false) × ArePast earlier es

abbrev AreNotId : List Edit → Type 0
AreNotId [] = Unit {0}
AreNotId (e ∷ es) = (is_id e.path ≡ false) × AreNotId es

wrong_none : (earlier : List (List ℕ)) (e : Edit) → wrong_edit earlier e ≡ None → (overlaps_any earlier e.path ≡ false) × (is_id e.path ≡ false)
wrong_none earlier e none = by (has_empty_step e.path) (overlaps_any earlier e.path) (is_id e.path) none
  where
    by : (empty over id : Bool) → cond empty (Some (BadChange e.path)) (cond over (Some (BadChange e.path)) (cond id (Some ChangesId) (cond (needs_number e.operator && not (is_number e.operand)) (Some (NotNumber e.path)) None))) ≡ None
        → (over ≡ false) × (id ≡ false)
    by true over id none = absurd cc
    by false true id none = absurd cc
    by false false true none = absurd cc
    by false false false none = (refl, refl)

any-append : (earlier : List (List ℕ)) (p q : List ℕ) → overlaps_any (earlier ++ p ∷ []) q ≡ false → (overlaps_any earlier q ≡ false) × (overlap p q ≡ false)
any-append [] p q e = (refl, or_left (overlap p q) false e)
any-append (x ∷ earlier) p q e =
    let later = any-append earlier p q (or_right (overlap x q) _ e) in
    let first : overlap x q ≡ false = or_left (overlap x q) _ e in
    (rw first later.0, later.1)

past_front : (earlier : List (List ℕ)) (p : List ℕ) (es : List Edit) → ArePast (earlier ++ p ∷ []) es → ArePast earlier es
past_front earlier p [] h = tt
past_front earlier p (e ∷ es) h = ((any-append earlier p e.path h.0).0, past_front earlier p es h.1)

past_back : (earlier : List (List ℕ)) (p : List ℕ) (es : List Edit) → ArePast (earlier ++ p ∷ []) es → overlaps_any (paths es) p ≡ false
past_back earlier p [] h = refl
past_back earlier p (e ∷ es) h =
    let here : overlap e.path p ≡ false = or_swap (leads (names p) (names e.path)) (leads (names e.path) (names p)) (any-append earlier p e.path h.0).1 in
    rw here (past_back earlier p es h.1)

entries_apart : (es : List Edit) (earlier : List (List ℕ)) → first_wrong earlier (entries es) ≡ None → ArePast earlier es × AreApart es × AreNotId es
entries_apart [] earlier e = (tt, tt, tt)
entries_apart (x ∷ es) earlier e =
    let both = or_none (wrong_edit earlier x) (first_wrong (earlier ++ x.path ∷ []) (entries es)) e in
    let here = wrong_none earlier x both.0 in
    let later = entries_apart es (earlier ++ x.path ∷ []) both.1 in
    ((here.0, past_front earlier x.path es later.0), (past_back earlier x.path es later.0, later.1), (here.1, later.2))

-- the plan of a change of right form
form_cases : (change : Elements) (es : List Edit) → form change ≡ None → plan change ≡ edits es → ArePast [] es × AreApart es × AreNotId es
form_cases no_elements es right is = absurd cc
form_cases (element n t c) es right is = by (has_dollar n) right is
  where
    by : (b : Bool) → cond b (first_wrong [] (places (element n t c))) (first_operator c) ≡ None → cond b (edits (edits_of (element n t c))) (replacement (element n t c)) ≡ edits es → ArePast [] es × AreApart es × AreNotId es
    by true right is =
        let same : edits_of (element n t c) ≡ es = cc in
        rw (← same) (entries_apart (edits_of (element n t c)) [] (walked (element n t c) [] right))
    by false right is = absurd cc

pub edits_apart : (c : Elements) → first_wrong [] (places c) ≡ None → AreApart (edits_of c)
edits_apart c right = (entries_apart (edits_of c) [] (walked c [] right)).1

pub forms_apart : FormsApart
forms_apart change es right is = (form_cases change es right is).1

-- ---- the _id

id_alone : (es : Elements) → value_at_path id_name es ≡ find id_name es
id_alone es = by (find id_name es)
  where
    by : (o : Option Tree) → option_and_then (go [] (value_at [])) o ≡ o
    by None = refl
    by (Some t) = refl

not_id : (path : List ℕ) → is_id path ≡ false → overlap path id_name ≡ false
not_id path e =
    let some = some_step path in
    let other : bytes_eq some.0 id_name ≡ false = rw some.2 at e in
    rw some.2 (apart some.0 some.1 other)
  where
    turned : (a b : List ℕ) → bytes_eq a b ≡ false → bytes_eq b a ≡ false
    turned a b e = by (bytes_eq b a) refl
      where
        by : (p : Bool) → bytes_eq b a ≡ p → p ≡ false
        by false x = refl
        by true x =
            let same : bytes_eq a b ≡ true = ap (bytes_eq a) (same_name b a x) ∙ bytes_same a in
            absurd cc

    apart : (n : List ℕ) (ns : List (List ℕ)) → bytes_eq n id_name ≡ false → (leads (n ∷ ns) (id_name ∷ []) || leads (id_name ∷ []) (n ∷ ns)) ≡ false
    apart n ns e = rw (e, turned n id_name e) refl

none_id : (es : List Edit) → AreNotId es → overlaps_any (paths es) id_name ≡ false
none_id [] h = refl
none_id (e ∷ es) h = rw (not_id e.path h.0, none_id es h.1) refl

others_no_id : (new : Elements) → find id_name (other_fields new) ≡ None
others_no_id no_elements = refl
others_no_id (element n t es) = by (bytes_eq n id_name) refl (others_no_id es)
  where
    by : (b : Bool) → bytes_eq n id_name ≡ b → find id_name (other_fields es) ≡ None → find id_name (cond b (other_fields es) (element n t (other_fields es))) ≡ None
    by true e later = later
    by false e later = rw e later

replaced_keeps : (new old d : Elements) → replaced new old ≡ Ok d → find id_name d ≡ find id_name old
replaced_keeps new old d e = by (keeps_id (find id_name old) new) (find id_name old) e
  where
    by : (b : Bool) (o : Option Tree) → cond b (Ok (append (id_field o) (other_fields new))) (Err ChangesId) ≡ Ok d → find id_name d ≡ o
    by true None e =
        let same : other_fields new ≡ d = cc in
        ap (find id_name) (sym same) ∙ others_no_id new
    by true (Some t) e =
        let same : element id_name t (other_fields new) ≡ d = cc in
        ap (find id_name) (sym same)
    by false o e = absurd cc

pub keeps_the_id : KeepsId
keeps_the_id change old new right e = by (plan change) refl e
  where
    by : (p : Plan) → plan change ≡ p → changed p old ≡ Ok new → find id_name new ≡ find id_name old
    by (replacement r) is e =
        let done = then_ok finished (replaced r old) new e in
        ap (find id_name) (sym (finished_same done.0 new done.2)) ∙ replaced_keeps r old done.0 done.1
    by (edits es) is e = sym (id_alone new) ∙ keeps_others es old new id_name e (none_id es (form_cases change es right is).2) ∙ id_alone old
