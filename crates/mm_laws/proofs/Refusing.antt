-- Bytes are a script, or they are refused at one line and for one cause: what is said of them is what is read of them.
use Rattle.std.proofs.Common.{◌≡◌, ℕ, ◌+◌, ◌≤◌, ◌⊎◌, inl, inr, Bool, true, false, cond, List, [], ◌∷◌, ◌++◌, length, Option, Some, None, Result, Ok, Err, refl, sym, ap, ◌∙◌, subst, arith}
use Rattle.std.specs.Prelude.{nat_lt, ◌&&◌}
use Rattle.std.specs.List.{cons_option}
use Rattle.std.proofs.lemmas.Bool.{ltb-true, lt-ltb, le-ltb, and_parts, and_from}
use Rattle.mm_bson.specs.Tree.{Elements, no_elements}
use Rattle.mm_model.specs.declared.action.Action.{Action}
use Rattle.mm_script.specs.declared.fault.LineWhat.{LineWhat}
use Rattle.mm_script.specs.declared.fault.LineWhat.TheVariants.{Utf8, Document, TooManyLines, TooLong}
use Rattle.mm_script.specs.Words.{NextWord}
use Rattle.mm_script.specs.Documents.{NextDocument, NextNotation, IsShortSpecification}
use Rattle.mm_script.specs.Form.{Form, ends, word, flag, document, specification, wrong, FirstFault}
use Rattle.mm_script.specs.Grammar.{Setting, line_form}
use Rattle.mm_script.specs.Lines.{lines, is_skipped, bytes_of}
use Rattle.mm_script.specs.Script.{most_lines, most_bytes, AreActions, HoldsTooMuch, IsWrong, IsRefused, IsFirstRefused, IsScript}
use Rattle.mm_script.specs.Reading.{◌>>=◌, part_at, document_at, read, line_at, some_of, judged, numbered, script_at}
use Rattle.mm_script.proofs.WordLaws.{part_takes, part_again, part_what, flag_cases, end_cases, next_same}
use Rattle.mm_script.proofs.DocLaws.{document_again, document_takes, document_what, notation_again, specification_again, specification_cases}
use Rattle.mm_script.proofs.ReadSteps.{line_reads, line_fails}
use Rattle.mm_script.proofs.ScriptLaws.{line_again}
use Rattle.mm_script.proofs.ReadLaws.{is_script, is_first_refused, script_again}
use Rattle.mm_laws.specs.Refusing.{EachIsJudged, NoneIsBoth, ScriptsAreOne, RefusalsAreOne}

-- ---- the first fault of a form

abbrev doc_in : Result (Elements × List ℕ) LineWhat → Elements
doc_in (Ok x) = x.0
doc_in (Err v) = no_elements

one_document : (text : List ℕ) (d e : Elements) (rest after : List ℕ) → NextNotation d text rest → NextNotation e text after → d ≡ e
one_document text d e rest after x y = ap doc_in (sym (notation_again d text rest x) ∙ notation_again e text after y)

no_word : (what : LineWhat) (test : List ℕ → Bool) (next : List ℕ → Form) (text : List ℕ) (v : LineWhat) → ((w rest : List ℕ) → NextWord w text rest → test w ≡ true → ⊥) → v ≡ what
    → (r : Result (List ℕ × List ℕ) LineWhat) → part_at what test text ≡ r → (r >>= λ w. read (next w.0) w.1) ≡ Err v
no_word what test next text v none is (Ok w) e = let x = part_takes what test text w e in absurd (none w.0 w.1 x.0 x.1)
no_word what test next text v none is (Err u) e = ap (λ (x : LineWhat). Err x) (part_what what test text u e ∙ sym is)

no_document : (next : Elements → Form) (text : List ℕ) (v : LineWhat) → ((d : Elements) (rest : List ℕ) → NextDocument d text rest → ⊥) → v ≡ Document
    → (r : Result (Elements × List ℕ) LineWhat) → document_at text ≡ r → (r >>= λ d. read (next d.0) d.1) ≡ Err v
no_document next text v none is (Ok d) e = absurd (none d.0 d.1 (document_takes text d.0 d.1 e))
no_document next text v none is (Err u) e = ap (λ (x : LineWhat). Err x) (document_what text u e ∙ sym is)

fault_again : (f : Form) (text : List ℕ) (v : LineWhat) → FirstFault f text v → read f text ≡ Err v
fault_again (ends a) text v m = elim (end_cases text) [
  | inl x ↦ absurd (m.0 x.0)
  | inr x ↦ ap (λ (r : Result (Unit {0}) LineWhat). r >>= λ e. Ok a) x.1 ∙ ap (λ (u : LineWhat). Err u) (sym m.1)
]
fault_again (word what test next) text v (inl m) =
    ap (λ (r : Result (List ℕ × List ℕ) LineWhat). r >>= λ w. read (next w.0) w.1) (part_again what test text m.0 m.1 m.2 m.3) ∙ fault_again (next m.0) m.1 v m.4
fault_again (word what test next) text v (inr m) = no_word what test next text v m.0 m.1 (part_at what test text) refl
fault_again (flag due next) text v (inl m) = elim (flag_cases due text) [
  | inl x ↦
      let same : (true, x.0) ≡ (true, m.0) = ap (λ (r : List ℕ). (true, r)) (next_same due text x.0 m.0 x.1 m.1) in
      ap (λ (f : Bool × List ℕ). read (next f.0) f.1) (x.2 ∙ same) ∙ fault_again (next true) m.0 v m.2
  | inr x ↦ absurd (x.0 m.0 m.1)
]
fault_again (flag due next) text v (inr m) = elim (flag_cases due text) [
  | inl x ↦ absurd (m.0 x.0 x.1)
  | inr x ↦ ap (λ (f : Bool × List ℕ). read (next f.0) f.1) x.1 ∙ fault_again (next false) text v m.1
]
fault_again (document next) text v (inl m) =
    ap (λ (r : Result (Elements × List ℕ) LineWhat). r >>= λ d. read (next d.0) d.1) (document_again m.0 text m.1 m.2) ∙ fault_again (next m.0) m.1 v m.3
fault_again (document next) text v (inr m) = no_document next text v m.0 m.1 (document_at text) refl
fault_again (specification next) text v (inl m) =
    ap (λ (r : Result (Elements × List ℕ) LineWhat). r >>= λ d. read (next d.0) d.1) (specification_again m.0 text m.1 m.2 m.3) ∙ fault_again (next m.0) m.1 v m.4
fault_again (specification next) text v (inr (inl m)) = elim (specification_cases text) [
  | inl x ↦ absurd (m.3 (subst IsShortSpecification (one_document text x.0 m.0 x.1 m.1 x.2 m.2) x.3))
  | inr y ↦ elim y [
    | inl x ↦ ap (λ (r : Result (Elements × List ℕ) LineWhat). r >>= λ d. read (next d.0) d.1) x.4 ∙ ap (λ (u : LineWhat). Err u) (sym m.4)
    | inr x ↦ absurd (x.0 m.0 m.1 m.2)
  ]
]
fault_again (specification next) text v (inr (inr m)) = elim (specification_cases text) [
  | inl x ↦ absurd (m.0 x.0 x.1 x.2)
  | inr y ↦ elim y [
    | inl x ↦ absurd (m.0 x.0 x.1 x.2)
    | inr x ↦ ap (λ (r : Result (Elements × List ℕ) LineWhat). r >>= λ d. read (next d.0) d.1) x.1 ∙ ap (λ (u : LineWhat). Err u) (sym m.1)
  ]
]
fault_again (wrong what) text v m = ap (λ (u : LineWhat). Err u) (sym m)

-- ---- a line in its place

wrong_again : (s : Setting) (n : ℕ) (line : List ℕ) (v : LineWhat) → IsWrong s n line v → line_at s n line ≡ Err v
wrong_again s n line v (inl w) = line_fails s n line w.0 ∙ ap (λ (u : LineWhat). Err u) (sym w.1)
wrong_again s n line v (inr w) = line_reads s n line w.0 ∙ fault_again (line_form s n) (0x20 ∷ line) v w.1

abbrev too_long : ℕ → ℕ → List ℕ → Bool
too_long total at line = nat_lt most_bytes total && nat_lt most_bytes (at + length line + 1)

held : (total at : ℕ) (line : List ℕ) → HoldsTooMuch total at line → too_long total at line ≡ true
held total at line h = and_from _ _ (lt-ltb most_bytes total h.0) (lt-ltb most_bytes (at + length line + 1) h.1)

not_held : (total at : ℕ) (line : List ℕ) → (HoldsTooMuch total at line → ⊥) → too_long total at line ≡ false
not_held total at line none = by (too_long total at line) refl
  where
    by : (b : Bool) → too_long total at line ≡ b → b ≡ false
    by true e = let both = and_parts (nat_lt most_bytes total) (nat_lt most_bytes (at + length line + 1)) e in
        absurd (none (ltb-true most_bytes total both.0, ltb-true most_bytes (at + length line + 1) both.1))
    by false e = refl

abbrev then_line : Setting → ℕ → List ℕ → Bool → Result (Option Action) LineWhat
then_line s n line skipped = cond skipped (Ok None) (line_at s n line >>= some_of)

judged_so : (s : Setting) (total at n : ℕ) (line : List ℕ) (many long skipped : Bool) → nat_lt most_lines n ≡ many → too_long total at line ≡ long → is_skipped line ≡ skipped
    → judged s total at n line ≡ cond many (Err TooManyLines) (cond long (Err TooLong) (then_line s n line skipped))
unfolding judged
judged_so s total at n line many long skipped e f g =
    ap (λ (b : Bool). cond b (Err TooManyLines) (cond (too_long total at line) (Err TooLong) (then_line s n line (is_skipped line)))) e
    ∙ ap (λ (b : Bool). cond many (Err TooManyLines) (cond b (Err TooLong) (then_line s n line (is_skipped line)))) f
    ∙ ap (λ (b : Bool). cond many (Err TooManyLines) (cond long (Err TooLong) (then_line s n line b))) g

judged_fault : (s : Setting) (total at n : ℕ) (line : List ℕ) (v : LineWhat) → IsRefused s total at n line v → judged s total at n line ≡ Err v
judged_fault s total at n line v (inl r) =
    judged_so s total at n line true (too_long total at line) (is_skipped line) (lt-ltb most_lines n r.0) refl refl ∙ ap (λ (u : LineWhat). Err u) (sym r.1)
judged_fault s total at n line v (inr (inl r)) =
    judged_so s total at n line false true (is_skipped line) (le-ltb most_lines n r.0) (held total at line r.1) refl ∙ ap (λ (u : LineWhat). Err u) (sym r.2)
judged_fault s total at n line v (inr (inr r)) =
    judged_so s total at n line false false false (le-ltb most_lines n r.0) (not_held total at line r.1) r.2 ∙ ap (λ (x : Result Action LineWhat). x >>= some_of) (wrong_again s n line v r.3)

-- a line that stands before the first refused one doesn't hold the byte past the most
free : (total at : ℕ) (line : List ℕ) (ls : List (List ℕ)) → (at + bytes_of (line ∷ ls) ≤ most_bytes) ⊎ (total ≤ most_bytes) → HoldsTooMuch total at line → ⊥
free total at line ls (inl h) held_ = absurd (omega (arith, h, held_.1))
free total at line ls (inr h) held_ = absurd (omega (arith, h, held_.0))

judged_good : (s : Setting) (total at n : ℕ) (line : List ℕ) (skipped : Bool) → n ≤ most_lines → (HoldsTooMuch total at line → ⊥) → is_skipped line ≡ skipped → judged s total at n line ≡ then_line s n line skipped
judged_good s total at n line skipped few none g = judged_so s total at n line false false skipped (le-ltb most_lines n few) (not_held total at line none) g

-- ---- all lines

abbrev joined : Setting → ℕ → ℕ → ℕ → List ℕ → List (List ℕ) → Result (Option Action) LineWhat → Result (List Action) (ℕ × LineWhat)
joined s total at n line ls r = numbered n r >>= λ a. script_at s total (at + length line + 1) (n + 1) ls >>= λ others. Ok (cons_option a others)

shorter : (total at : ℕ) (l : List ℕ) (before : List (List ℕ)) → (at + bytes_of (l ∷ before) ≤ most_bytes) ⊎ (total ≤ most_bytes) → ((at + length l + 1) + bytes_of before ≤ most_bytes) ⊎ (total ≤ most_bytes)
shorter total at l before (inl h) = inl (omega (arith, h))
shorter total at l before (inr h) = inr h

moved : (s : Setting) (total at n : ℕ) (l : List ℕ) (before : List (List ℕ)) (line : List ℕ) (v : LineWhat) → IsRefused s total (at + bytes_of (l ∷ before)) (n + length (l ∷ before)) line v
    → IsRefused s total ((at + length l + 1) + bytes_of before) ((n + 1) + length before) line v
moved s total at n l before line v refused =
    subst (λ (k : ℕ). IsRefused s total k ((n + 1) + length before) line v) (omega arith) (subst (λ (k : ℕ). IsRefused s total (at + bytes_of (l ∷ before)) k line v) (omega arith) refused)

one_line_on : (n : ℕ) (l : List ℕ) (before : List (List ℕ)) (v : LineWhat) (r : Result (List Action) (ℕ × LineWhat)) → r ≡ Err ((n + 1) + length before, v) → r ≡ Err (n + length (l ∷ before), v)
one_line_on n l before v r e = e ∙ ap (λ (k : ℕ). Err (k, v)) (omega arith)

refused_again : (s : Setting) (total at n : ℕ) (before : List (List ℕ)) (line : List ℕ) (behind : List (List ℕ)) (actions : List Action) (v : LineWhat)
    → n + length before ≤ most_lines + 1 → (at + bytes_of before ≤ most_bytes) ⊎ (total ≤ most_bytes) → AreActions s n before actions
    → IsRefused s total (at + bytes_of before) (n + length before) line v → script_at s total at n (before ++ line ∷ behind) ≡ Err (n + length before, v)
refused_again s total at n [] line behind actions v few short are refused =
    let here : IsRefused s total at n line v = subst (λ (k : ℕ). IsRefused s total k n line v) (omega arith) (subst (λ (k : ℕ). IsRefused s total (at + bytes_of []) k line v) (omega arith) refused) in
    ap (joined s total at n line behind) (judged_fault s total at n line v here) ∙ ap (λ (k : ℕ). Err (k, v)) (omega arith)
refused_again s total at n (l ∷ before) line behind actions v few short (inl skipped) refused =
    let later = refused_again s total (at + length l + 1) (n + 1) before line behind actions v (omega (arith, few)) (shorter total at l before short) skipped.1 (moved s total at n l before line v refused) in
    ap (joined s total at n l (before ++ line ∷ behind)) (judged_good s total at n l true (omega (arith, few)) (free total at l before short) skipped.0)
    ∙ one_line_on n l before v _ (ap (λ (r : Result (List Action) (ℕ × LineWhat)). r >>= λ others. Ok (cons_option None others)) later)
refused_again s total at n (l ∷ before) line behind actions v few short (inr asked) refused =
    let later = refused_again s total (at + length l + 1) (n + 1) before line behind asked.1 v (omega (arith, few)) (shorter total at l before short) asked.4 (moved s total at n l before line v refused) in
    ap (joined s total at n l (before ++ line ∷ behind))
    (judged_good s total at n l false (omega (arith, few)) (free total at l before short) asked.3.counts ∙ ap (λ (r : Result Action LineWhat). r >>= some_of) (line_again s n l asked.0 asked.3))
    ∙ one_line_on n l before v _ (ap (λ (r : Result (List Action) (ℕ × LineWhat)). r >>= λ others. Ok (cons_option (Some asked.0) others)) later)

first_again : (s : Setting) (bytes : List ℕ) (n : ℕ) (v : LineWhat) → IsFirstRefused s bytes n v → script_at s (length bytes) 0 1 (lines bytes) ≡ Err (n, v)
first_again s bytes n v r =
    ap (script_at s (length bytes) 0 1) r.lines_are
    ∙ refused_again s (length bytes) 0 1 r.before r.line r.behind r.actions v (omega (arith, r.few)) (short r.short) r.good
    (subst (λ (k : ℕ). IsRefused s (length bytes) k (1 + length r.before) r.line v) (omega arith) (subst (λ (k : ℕ). IsRefused s (length bytes) (bytes_of r.before) k r.line v) number r.refused))
    ∙ ap (λ (k : ℕ). Err (k, v)) (sym number)
  where
    number : n ≡ 1 + length r.before
    number = omega (arith, r.number)

    short : (bytes_of r.before ≤ most_bytes) ⊎ (length bytes ≤ most_bytes) → (0 + bytes_of r.before ≤ most_bytes) ⊎ (length bytes ≤ most_bytes)
    short (inl h) = inl (omega (arith, h))
    short (inr h) = inr h

-- ---- the laws

abbrev fault_in : Result (List Action) (ℕ × LineWhat) → ℕ × LineWhat
fault_in (Ok x) = (0, Utf8)
fault_in (Err e) = e

abbrev actions_in : Result (List Action) (ℕ × LineWhat) → List Action
actions_in (Ok x) = x
actions_in (Err e) = []

pub each_is_judged : EachIsJudged
each_is_judged s bytes = by (script_at s (length bytes) 0 1 (lines bytes)) refl
  where
    by : (r : Result (List Action) (ℕ × LineWhat)) → script_at s (length bytes) 0 1 (lines bytes) ≡ r → ((asked : List Action) × IsScript s bytes asked) ⊎ ((n : ℕ) × (v : LineWhat) × IsFirstRefused s bytes n v)
    by (Ok asked) e = inl (asked, is_script s bytes asked e)
    by (Err f) e = inr (f.0, f.1, is_first_refused s bytes f.0 f.1 e)

pub none_is_both : NoneIsBoth
none_is_both s bytes asked n v is refused = cc (sym (script_again s bytes asked is) ∙ first_again s bytes n v refused)

pub scripts_are_one : ScriptsAreOne
scripts_are_one s bytes asked others is too = ap actions_in (sym (script_again s bytes asked is) ∙ script_again s bytes others too)

pub refusals_are_one : RefusalsAreOne
refusals_are_one s bytes n m v w one other =
    let same = sym (first_again s bytes n v one) ∙ first_again s bytes m w other in (ap (λ r. (fault_in r).0) same, ap (λ r. (fault_in r).1) same)
