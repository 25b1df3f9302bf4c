-- The map's entries, taken apart where a place belongs, and what its calls make of them.
use Rattle.std.proofs.Common.{◌≡◌, ◌≤◌, ℕ, true, false, List, [], ◌∷◌, ◌++◌, Some, None, refl, sym, ◌∙◌, ap, subst, arith, inl, inr}
use Rattle.std.specs.Prelude.{◌&&◌, ◌||◌, nat_lt, nat_le, ◌==◌}
use Rattle.std.specs.declared.cmp.Ordering.{Ordering}
use Rattle.std.specs.declared.cmp.Ordering.TheVariants.{Less, Equal, Greater}
use Rattle.std.specs.Ordering.{nat_cmp, ordering_then, match_ordering, is_eq}
use Rattle.std.specs.BTreeMap.{is_at, insert_entry}
use Rattle.std.specs.Map.{lookup, remove_entry}
use Rattle.std.proofs.lemmas.Bool.{cases_Bool, cond-true, cond-false, and_parts, and_from}
use Rattle.std.proofs.lemmas.Bool.Decides.{nat_tests}
use Rattle.mm_ranges.specs.Places.{Range, is_before}
use Rattle.mm_ranges.specs.Spans.{Entry, span_of, spans_of, ends_before, first_at, are_forward}
use Rattle.mm_ranges.proofs.Splits.{AllBefore}

-- the order of the map's keys
abbrev pub key_cmp : ℕ × ℕ → ℕ × ℕ → Ordering
key_cmp x y = ordering_then (nat_cmp x.0 y.0) (nat_cmp x.1 y.1)

-- each of these ends before the place
abbrev pub AllEnd : List Entry → ℕ → ℕ → Type 0
AllEnd [] file at = Unit {0}
AllEnd (e ∷ es) file at = (ends_before e file at ≡ true) × AllEnd es file at

-- the entries taken apart at the first that doesn't end before a place
pub record Found (file at : ℕ) (es : List Entry) (e : Entry) : Type 0 where
  pub before : List Entry
  pub after : List Entry
  pub whole : es ≡ before ++ e ∷ after
  pub past : AllEnd before file at
  pub here : ends_before e file at ≡ false

pub found_at : (file at : ℕ) (es : List Entry) (e : Entry) → first_at file at es ≡ Some e → Found file at es e
found_at file at [] e h = absurd (cc)
found_at file at (x ∷ xs) e h = elim (cases_Bool (ends_before x file at)) [
  | inl past ↦ more past (found_at file at xs e (sym (cond-true (ends_before x file at) (first_at file at xs) (Some x) past) ∙ h))
  | inr here ↦ let same : x ≡ e = some_same x e (sym (cond-false (ends_before x file at) (first_at file at xs) (Some x) here) ∙ h) in
      record {
        before = [];
        after = xs;
        whole = ap (λ (y : Entry). y ∷ xs) same;
        past = tt;
        here = subst (λ (y : Entry). ends_before y file at ≡ false) same here;
      }
]
  where
    some_same : (x e : Entry) → Some x ≡ Some e → x ≡ e
    some_same x e h = cc

    more : ends_before x file at ≡ true → Found file at xs e → Found file at (x ∷ xs) e
    more past f = record { before = x ∷ f.before; after = f.after; whole = ap (λ (ys : List Entry). x ∷ ys) f.whole; past = (past, f.past); here = f.here }

pub all_end : (file at : ℕ) (es : List Entry) → first_at file at es ≡ None → AllEnd es file at
all_end file at [] h = tt
all_end file at (x ∷ xs) h = elim (cases_Bool (ends_before x file at)) [
  | inl past ↦ (past, all_end file at xs (sym (cond-true (ends_before x file at) (first_at file at xs) (Some x) past) ∙ h))
  | inr here ↦ absurd (none_some x (sym (cond-false (ends_before x file at) (first_at file at xs) (Some x) here) ∙ h))
]
  where
    none_some : (x : Entry) → Some x ≡ None → ⊥
    none_some x h = cc

-- what ends before a place ends before a later one
pub all_end_sooner : (es : List Entry) (file at later : ℕ) → AllEnd es file at → at ≤ later → AllEnd es file later
all_end_sooner [] file at later past le = tt
all_end_sooner (e ∷ es) file at later past le = (sooner e past.0, all_end_sooner es file at later past.1 le)
  where
    sooner : (e : Entry) → ends_before e file at ≡ true → ends_before e file later ≡ true
    sooner e h = grind (arith, nat_tests, le)

greater : (file at : ℕ) (x : Entry) (k : ℕ × ℕ) → ends_before x file at ≡ true → (nat_lt k.0 file || (k.0 == file && nat_lt k.1 at)) ≡ false → key_cmp k x.0 ≡ Greater
greater file at x k a b = grind (arith, nat_tests)

equal : (k : ℕ × ℕ) → key_cmp k k ≡ Equal
equal k = grind (arith, nat_tests)

-- the first that a look-up finds is taken out
pub entry_removed : (file at : ℕ) (before after : List Entry) (e : Entry) → AllEnd before file at → ends_before e file at ≡ false → remove_entry (is_at (key_cmp e.0)) (before ++ e ∷ after) ≡ before ++ after
entry_removed file at [] after e past here = cond-true (is_at (key_cmp e.0) e.0) after (e ∷ remove_entry (is_at (key_cmp e.0)) after) (ap is_eq (equal e.0))
entry_removed file at (x ∷ before) after e past here =
    cond-false (is_at (key_cmp e.0) x.0) (before ++ e ∷ after) (x ∷ remove_entry (is_at (key_cmp e.0)) (before ++ e ∷ after)) (ap is_eq (greater file at x e.0 past.0 here))
    ∙ ap (λ (ys : List Entry). x ∷ ys) (entry_removed file at before after e past.1 here)

-- its start is set
pub entry_set : (file at : ℕ) (before after : List Entry) (e : Entry) (start : ℕ) → AllEnd before file at → ends_before e file at ≡ false → insert_entry key_cmp (before ++ e ∷ after) e.0 start ≡ before ++ (e.0, start) ∷ after
entry_set file at [] after e start past here =
    ap (λ (o : Ordering). match_ordering o ((e.0, start) ∷ e ∷ after) ((e.0, start) ∷ after) (e ∷ insert_entry key_cmp after e.0 start)) (equal e.0)
entry_set file at (x ∷ before) after e start past here =
    ap (λ (o : Ordering). match_ordering o ((e.0, start) ∷ x ∷ before ++ e ∷ after) ((x.0, start) ∷ before ++ e ∷ after) (x ∷ insert_entry key_cmp (before ++ e ∷ after) e.0 start)) (greater file at x e.0 past.0 here)
    ∙ ap (λ (ys : List Entry). x ∷ ys) (entry_set file at before after e start past.1 here)

-- it is there
pub entry_there : (file at : ℕ) (before after : List Entry) (e : Entry) → AllEnd before file at → ends_before e file at ≡ false → lookup (is_at (key_cmp e.0)) (before ++ e ∷ after) ≡ Some e.1
entry_there file at [] after e past here = cond-true (is_at (key_cmp e.0) e.0) (Some e.1) (lookup (is_at (key_cmp e.0)) after) (ap is_eq (equal e.0))
entry_there file at (x ∷ before) after e past here =
    cond-false (is_at (key_cmp e.0) x.0) (Some x.1) (lookup (is_at (key_cmp e.0)) (before ++ e ∷ after)) (ap is_eq (greater file at x e.0 past.0 here))
    ∙ entry_there file at before after e past.1 here

-- each key comes after the place
abbrev pub IsPast : ℕ → ℕ → List Entry → Type 0
IsPast file at [] = Unit {0}
IsPast file at (e ∷ es) = (nat_lt file e.0.0 || (e.0.0 == file && nat_lt at e.0.1)) ≡ true

less : (file at : ℕ) (x : Entry) → (nat_lt file x.0.0 || (x.0.0 == file && nat_lt at x.0.1)) ≡ true → key_cmp (file, at) x.0 ≡ Less
less file at x h = grind (arith, nat_tests)

place_itself : (file at : ℕ) → (nat_lt file file || (file == file && nat_lt at at)) ≡ false
place_itself file at = grind (arith, nat_tests)

-- a new key goes to its place
pub entry_new : (file at : ℕ) (before after : List Entry) (start : ℕ) → AllEnd before file at → IsPast file at after → insert_entry key_cmp (before ++ after) (file, at) start ≡ before ++ ((file, at), start) ∷ after
entry_new file at [] [] start past later = refl
entry_new file at [] (x ∷ after) start past later =
    ap (λ (o : Ordering). match_ordering o (((file, at), start) ∷ x ∷ after) ((x.0, start) ∷ after) (x ∷ insert_entry key_cmp after (file, at) start)) (less file at x later)
entry_new file at (x ∷ before) after start past later =
    ap (λ (o : Ordering). match_ordering o (((file, at), start) ∷ x ∷ before ++ after) ((x.0, start) ∷ before ++ after) (x ∷ insert_entry key_cmp (before ++ after) (file, at) start)) (greater file at x (file, at) past.0 (place_itself file at))
    ∙ ap (λ (ys : List Entry). x ∷ ys) (entry_new file at before after start past.1 later)

-- ---- from entries to spans
pub spans_of-append : (es fs : List Entry) → spans_of (es ++ fs) ≡ spans_of es ++ spans_of fs
spans_of-append [] fs = refl
spans_of-append (e ∷ es) fs = ap (λ (rs : List Range). span_of e ∷ rs) (spans_of-append es fs)

pub are_forward-append : (es fs : List Entry) → are_forward (es ++ fs) ≡ true → (are_forward es ≡ true) × (are_forward fs ≡ true)
are_forward-append [] fs h = (refl, h)
are_forward-append (e ∷ es) fs h =
    let parts = and_parts (nat_le e.1 e.0.1) (are_forward (es ++ fs)) h in
    let rest = are_forward-append es fs parts.1 in
    (and_from (nat_le e.1 e.0.1) (are_forward es) parts.0 rest.0, rest.1)

pub forward_both : (es fs : List Entry) → are_forward es ≡ true → are_forward fs ≡ true → are_forward (es ++ fs) ≡ true
forward_both [] fs h k = k
forward_both (e ∷ es) fs h k =
    let parts = and_parts (nat_le e.1 e.0.1) (are_forward es) h in
    and_from (nat_le e.1 e.0.1) (are_forward (es ++ fs)) parts.0 (forward_both es fs parts.1 k)

span_before : (e : Entry) (n : Range) → nat_le e.1 e.0.1 ≡ true → ends_before e n.0 n.1 ≡ true → is_before (span_of e) n ≡ true
span_before e n forward h = grind (arith, nat_tests)

pub span_not_before : (e : Entry) (n : Range) → nat_le e.1 e.0.1 ≡ true → ends_before e n.0 n.1 ≡ false → is_before (span_of e) n ≡ false
span_not_before e n forward h = grind (arith, nat_tests)

pub spans_before : (es : List Entry) (n : Range) → are_forward es ≡ true → AllEnd es n.0 n.1 → AllBefore (spans_of es) n
spans_before [] n h past = tt
spans_before (e ∷ es) n h past = let parts = and_parts (nat_le e.1 e.0.1) (are_forward es) h in (span_before e n parts.0 past.0, spans_before es n parts.1 past.1)
