-- A whole script, as it is read and as it is said.
use Rattle.std.proofs.Common.{◌≡◌, ℕ, ◌+◌, ◌≤◌, ◌⊎◌, inl, inr, Bool, true, false, cond, List, [], ◌∷◌, length, Option, Some, None, Result, Ok, Err, sym, ap, ◌∙◌, subst, arith}
use Rattle.std.specs.Prelude.{nat_lt, ◌&&◌}
use Rattle.std.specs.List.{cons_option, onto_first}
use Rattle.std.proofs.lemmas.Bool.{le-ltb}
use Rattle.mm_model.specs.declared.action.Action.{Action}
use Rattle.mm_script.specs.declared.fault.LineWhat.{LineWhat}
use Rattle.mm_script.specs.declared.fault.LineWhat.TheVariants.{TooManyLines, TooLong}
use Rattle.mm_script.specs.declared.fault.ScriptFault.{ScriptFault}
use Rattle.mm_script.specs.declared.fault.ScriptFault.TheVariants.{Line, NoMemory}
use Rattle.mm_script.specs.Grammar.{Setting}
use Rattle.mm_script.specs.Lines.{is_line_end, lines, is_skipped, bytes_of}
use Rattle.mm_script.specs.Script.{most_lines, most_bytes, AreActions, IsScript, IsRefused, IsFirstRefused, IfLine}
use Rattle.mm_script.specs.Reading.{◌>>=◌, line_at, some_of, judged, numbered, script_at, Refuses}
use Rattle.mm_script.proofs.ScriptLaws.{Whole, Good, Ended, whole_so, line_again}

-- the lines with their ends are no shorter than the bytes
pub covered : (bytes : List ℕ) → length bytes ≤ bytes_of (lines bytes)
unfolding lines
covered [] = omega arith
covered (b ∷ bytes) = by (is_line_end b) (covered bytes)
  where
    onto : (ls : List (List ℕ)) → length bytes ≤ bytes_of ls → length (b ∷ bytes) ≤ bytes_of (onto_first b ls)
    onto [] h = omega arith
    onto (l ∷ ls) h = omega arith

    by : (e : Bool) → length bytes ≤ bytes_of (lines bytes) → length (b ∷ bytes) ≤ bytes_of (cond e ([] ∷ lines bytes) (onto_first b (lines bytes)))
    by true h = omega arith
    by false h = onto (lines bytes) h

pub is_script : (s : Setting) (bytes : List ℕ) (actions : List Action) → script_at s (length bytes) 0 1 (lines bytes) ≡ Ok actions → IsScript s bytes actions
is_script s bytes actions is =
    let good : Good s (length bytes) 0 1 (lines bytes) actions = subst (Whole s (length bytes) 0 1 (lines bytes)) is (whole_so s (length bytes) 0 1 (lines bytes)) in
    record { few = few good.few; short = short good.short; actions = good.are }
  where
    few : (lines bytes ≡ []) ⊎ (1 + length (lines bytes) ≤ most_lines + 1) → length (lines bytes) ≤ most_lines
    few (inl none) = omega (arith, ap length none)
    few (inr h) = omega arith

    short : (lines bytes ≡ []) ⊎ ((length bytes ≤ most_bytes) ⊎ (0 + bytes_of (lines bytes) ≤ most_bytes)) → length bytes ≤ most_bytes
    short (inl none) = omega (arith, covered bytes, ap bytes_of none)
    short (inr (inl h)) = h
    short (inr (inr h)) = omega (arith, covered bytes)

pub is_first_refused : (s : Setting) (bytes : List ℕ) (n : ℕ) (v : LineWhat) → script_at s (length bytes) 0 1 (lines bytes) ≡ Err (n, v) → IsFirstRefused s bytes n v
is_first_refused s bytes n v is =
    let w : Ended s (length bytes) 0 1 (lines bytes) n v = subst (Whole s (length bytes) 0 1 (lines bytes)) is (whole_so s (length bytes) 0 1 (lines bytes)) in
    record {
      before = w.0;
      line = w.1;
      behind = w.2;
      lines_are = w.4;
      number = w.5 ∙ omega arith;
      few = few w.0 w.6.few;
      short = short w.0 w.6.short;
      actions = w.3;
      good = w.6.are;
      refused = subst (λ (k : ℕ). IsRefused s (length bytes) k n w.1 v) (omega arith) w.7;
    }
  where
    few : (ls : List (List ℕ)) → (ls ≡ []) ⊎ (1 + length ls ≤ most_lines + 1) → length ls ≤ most_lines
    few ls (inl none) = omega (arith, ap length none)
    few ls (inr h) = omega arith

    short : (ls : List (List ℕ)) → (ls ≡ []) ⊎ ((length bytes ≤ most_bytes) ⊎ (0 + bytes_of ls ≤ most_bytes)) → (bytes_of ls ≤ most_bytes) ⊎ (length bytes ≤ most_bytes)
    short ls (inl none) = inl (omega (arith, ap bytes_of none))
    short ls (inr (inl h)) = inr h
    short ls (inr (inr h)) = inl (omega arith)

-- ---- what is a script's is read

left_no : (a b : Bool) → a ≡ false → (a && b) ≡ false
left_no a b is = ap (λ (x : Bool). x && b) is

judged_read : (s : Setting) (total at n : ℕ) (line : List ℕ) → n ≤ most_lines → total ≤ most_bytes → judged s total at n line ≡ cond (is_skipped line) (Ok None) (line_at s n line >>= some_of)
unfolding judged
judged_read s total at n line few short =
    ap (λ (b : Bool). cond b (Err TooManyLines) (cond (nat_lt most_bytes total && nat_lt most_bytes (at + length line + 1)) (Err TooLong) (cond (is_skipped line) (Ok None) (line_at s n line >>= some_of)))) (le-ltb most_lines n few)
    ∙ ap (λ (b : Bool). cond b (Err TooLong) (cond (is_skipped line) (Ok None) (line_at s n line >>= some_of))) (left_no (nat_lt most_bytes total) (nat_lt most_bytes (at + length line + 1)) (le-ltb most_bytes total short))

pub all_again : (s : Setting) (total at n : ℕ) (ls : List (List ℕ)) (actions : List Action) → total ≤ most_bytes → n + length ls ≤ most_lines + 1 → AreActions s n ls actions → script_at s total at n ls ≡ Ok actions
all_again s total at n [] actions short few are = ap (λ (x : List Action). Ok x) (sym are)
all_again s total at n (line ∷ ls) actions short few (inl skipped) =
    let is : judged s total at n line ≡ Ok None = judged_read s total at n line (omega arith) short ∙ ap (λ (b : Bool). cond b (Ok None) (line_at s n line >>= some_of)) skipped.0 in
    ap (λ (r : Result (Option Action) LineWhat). numbered n r >>= λ a. script_at s total (at + length line + 1) (n + 1) ls >>= λ others. Ok (cons_option a others)) is
    ∙ ap (λ (r : Result (List Action) (ℕ × LineWhat)). r >>= λ others. Ok (cons_option None others)) (all_again s total (at + length line + 1) (n + 1) ls actions short (omega arith) skipped.1)
all_again s total at n (line ∷ ls) actions short few (inr asked) =
    let a = asked.0 in
    let is : judged s total at n line ≡ Ok (Some a) =
    judged_read s total at n line (omega arith) short ∙ ap (λ (b : Bool). cond b (Ok None) (line_at s n line >>= some_of)) asked.3.counts ∙ ap (λ (r : Result Action LineWhat). r >>= some_of) (line_again s n line a asked.3) in
    ap (λ (r : Result (Option Action) LineWhat). numbered n r >>= λ o. script_at s total (at + length line + 1) (n + 1) ls >>= λ others. Ok (cons_option o others)) is
    ∙ ap (λ (r : Result (List Action) (ℕ × LineWhat)). r >>= λ others. Ok (cons_option (Some a) others)) (all_again s total (at + length line + 1) (n + 1) ls asked.1 short (omega arith) asked.4)
    ∙ ap (λ (x : List Action). Ok x) (sym asked.2)

pub script_again : (s : Setting) (bytes : List ℕ) (asked : List Action) → IsScript s bytes asked → script_at s (length bytes) 0 1 (lines bytes) ≡ Ok asked
script_again s bytes asked is = all_again s (length bytes) 0 1 (lines bytes) asked is.short (omega (arith, is.few)) is.actions

abbrev or_none : Result (List Action) (ℕ × LineWhat) → List Action
or_none (Ok x) = x
or_none (Err e) = []

pub one_script : (s : Setting) (bytes : List ℕ) (actions asked : List Action) → script_at s (length bytes) 0 1 (lines bytes) ≡ Ok actions → IsScript s bytes asked → asked ≡ actions
one_script s bytes actions asked read is = ap or_none (sym (script_again s bytes asked is) ∙ read)

pub no_script : (s : Setting) (bytes : List ℕ) (e : ℕ × LineWhat) (asked : List Action) → script_at s (length bytes) 0 1 (lines bytes) ≡ Err e → IsScript s bytes asked → ⊥
no_script s bytes e asked read is = cc (sym (script_again s bytes asked is) ∙ read)

-- a refusal names the first line that is refused
pub refused_so : (X : Type 0) (s : Setting) (bytes : List ℕ) (f : ScriptFault) → Refuses f (script_at s (length bytes) 0 1 (lines bytes)) → IfLine {X = X} (Err f) (λ n v. IsFirstRefused s bytes n v)
refused_so X s bytes (Line n v) is = is_first_refused s bytes n v is
refused_so X s bytes NoMemory is = tt

-- and then the bytes are no script
pub none_so : (X : Type 0) (s : Setting) (bytes : List ℕ) (f : ScriptFault) → Refuses f (script_at s (length bytes) 0 1 (lines bytes)) → IfLine {X = X} (Err f) (λ n v. (asked : List Action) → IsScript s bytes asked → ⊥)
none_so X s bytes (Line n v) is = λ asked script. no_script s bytes (n, v) asked is script
none_so X s bytes NoMemory is = tt
