-- The lines of a script, one after the other.
use Rattle.std.proofs.Common.{◌≡◌, ℕ, ◌+◌, ◌-◌, ◌≤◌, ◌⊎◌, inl, inr, Bool, true, false, List, [], ◌∷◌, ◌++◌, append_assoc, append-nil, length, Option, Some, None, Result, Ok, Err, refl, sym, ap, ◌∙◌, arith}
use Rattle.std.specs.Prelude.{nat_lt, ◌&&◌}
use Rattle.std.specs.List.{cons_option}
use Rattle.std.proofs.lemmas.Bool.{ltb-true, lt-ltb, ltb-false, le-ltb, and_from}
use Rattle.mm_model.specs.declared.action.Action.{Action}
use Rattle.mm_script.specs.declared.fault.LineWhat.{LineWhat}
use Rattle.mm_script.specs.Grammar.{Setting}
use Rattle.mm_script.specs.Lines.{lines}
use Rattle.mm_script.specs.Reading.{◌>>=◌, judged, numbered, script_at}

-- these actions, and those that are still read
abbrev pub onto : List Action → Result (List Action) (ℕ × LineWhat) → Result (List Action) (ℕ × LineWhat)
onto before read = read >>= λ others. Ok (before ++ others)

onto_more : (before : List Action) (a : Option Action) (read : Result (List Action) (ℕ × LineWhat)) → onto before (read >>= λ others. Ok (cons_option a others)) ≡ onto (before ++ cons_option a []) read
onto_more before None (Ok others) = ap (λ (b : List Action). Ok (b ++ others)) (sym (append-nil before))
onto_more before (Some a) (Ok others) = ap (λ (b : List Action). Ok b) (sym (append_assoc before (a ∷ []) others))
onto_more before a (Err e) = refl

-- a line that is read is put behind those before it
pub line_read : (s : Setting) (total at n : ℕ) (before : List Action) (line : List ℕ) (others : List (List ℕ)) (a : Option Action) → judged s total at n line ≡ Ok a
    → onto before (script_at s total at n (line ∷ others)) ≡ onto (before ++ cons_option a []) (script_at s total (at + length line + 1) (n + 1) others)
line_read s total at n before line others a is =
    ap (λ (r : Result (Option Action) LineWhat). onto before (numbered n r >>= λ o. script_at s total (at + length line + 1) (n + 1) others >>= λ more. Ok (cons_option o more))) is
    ∙ onto_more before a (script_at s total (at + length line + 1) (n + 1) others)

-- a line that is refused ends it
pub line_refused : (s : Setting) (total at n : ℕ) (before : List Action) (line : List ℕ) (others : List (List ℕ)) (v : LineWhat) → judged s total at n line ≡ Err v
    → onto before (script_at s total at n (line ∷ others)) ≡ Err (n, v)
line_refused s total at n before line others v is =
    ap (λ (r : Result (Option Action) LineWhat). onto before (numbered n r >>= λ o. script_at s total (at + length line + 1) (n + 1) others >>= λ more. Ok (cons_option o more))) is

-- behind the last line it is all the same how many bytes were before
pub place_behind : (s : Setting) (total at place n line_len : ℕ) (rest : List ℕ) → (place ≡ at + line_len + 1) ⊎ (rest ≡ []) → script_at s total (at + line_len + 1) n (lines rest) ≡ script_at s total place n (lines rest)
unfolding lines
place_behind s total at place n line_len rest (inl same) = ap (λ (k : ℕ). script_at s total k n (lines rest)) (sym same)
place_behind s total at place n line_len rest (inr none) = ap (λ (r : List ℕ). script_at s total (at + line_len + 1) n (lines r)) none ∙ no_more ∙ ap (λ (r : List ℕ). script_at s total place n (lines r)) (sym none)
  where
    no_more : script_at s total (at + line_len + 1) n (lines []) ≡ script_at s total place n (lines [])
    no_more = refl

pub all_read : (s : Setting) (total at n : ℕ) (before : List Action) (rest : List ℕ) → length rest ≡ 0 → onto before (script_at s total at n (lines rest)) ≡ Ok before
unfolding lines
all_read s total at n before [] none = ap (λ (b : List Action). Ok b) (append-nil before)
all_read s total at n before (b ∷ rest) none = absurd (omega arith)

left_false : (a b : Bool) → a ≡ false → (a && b) ≡ false
left_false a b is = ap (λ (x : Bool). x && b) is

right_false : (a b : Bool) → b ≡ false → (a && b) ≡ false
right_false true b is = is
right_false false b is = refl

-- whether the bytes through the line are past the most, where the line is the next of those that are left
pub long_is : (most total at l left after : ℕ) → left ≤ total → at ≡ total - left → (l + 1 + after ≡ left) ⊎ ((l ≡ left) × (after ≡ 0)) → nat_lt most (total - after) ≡ (nat_lt most total && nat_lt most (at + l + 1))
long_is most total at l left after inside is sizes = by (nat_lt most (total - after)) refl sizes
  where
    by : (b : Bool) → nat_lt most (total - after) ≡ b → (l + 1 + after ≡ left) ⊎ ((l ≡ left) × (after ≡ 0)) → b ≡ (nat_lt most total && nat_lt most (at + l + 1))
    by true e (inl ended) = let h = ltb-true most (total - after) e in sym (and_from _ _ (lt-ltb most total (omega arith)) (lt-ltb most (at + l + 1) (omega arith)))
    by true e (inr last) = let h = ltb-true most (total - after) e in sym (and_from _ _ (lt-ltb most total (omega arith)) (lt-ltb most (at + l + 1) (omega arith)))
    by false e (inl ended) = let h = ltb-false most (total - after) e in sym (right_false (nat_lt most total) _ (le-ltb most (at + l + 1) (omega arith)))
    by false e (inr last) = let h = ltb-false most (total - after) e in sym (left_false _ (nat_lt most (at + l + 1)) (le-ltb most total (omega arith)))

-- one turn of the loop
pub turn : (s : Setting) (total n : ℕ) (before : List Action) (rest line after : List ℕ) (a : Option Action) (whole : Result (List Action) (ℕ × LineWhat)) → length rest ≤ total → lines rest ≡ line ∷ lines after
    → (length line + 1 + length after ≡ length rest) ⊎ ((length line ≡ length rest) × (after ≡ [])) → judged s total (total - length rest) n line ≡ Ok a
    → onto before (script_at s total (total - length rest) n (lines rest)) ≡ whole → onto (before ++ cons_option a []) (script_at s total (total - length after) (n + 1) (lines after)) ≡ whole
turn s total n before rest line after a whole inside first sizes is so_far =
    let at = total - length rest in
    let B = before ++ cons_option a [] in
    ap (onto B) (sym (place_behind s total at (total - length after) (n + 1) (length line) after (place sizes)))
    ∙ sym (line_read s total at n before line (lines after) a is)
    ∙ ap (λ (ls : List (List ℕ)). onto before (script_at s total at n ls)) (sym first)
    ∙ so_far
  where
    place : (length line + 1 + length after ≡ length rest) ⊎ ((length line ≡ length rest) × (after ≡ [])) → (total - length after ≡ (total - length rest) + length line + 1) ⊎ (after ≡ [])
    place (inl ended) = inl (omega arith)
    place (inr last) = inr last.1

pub turned_down : (s : Setting) (total n : ℕ) (before : List Action) (rest line after : List ℕ) (v : LineWhat) (whole : Result (List Action) (ℕ × LineWhat)) → lines rest ≡ line ∷ lines after
    → judged s total (total - length rest) n line ≡ Err v → onto before (script_at s total (total - length rest) n (lines rest)) ≡ whole → whole ≡ Err (n, v)
turned_down s total n before rest line after v whole first is so_far =
    sym so_far ∙ ap (λ (ls : List (List ℕ)). onto before (script_at s total (total - length rest) n ls)) first ∙ line_refused s total (total - length rest) n before line (lines after) v is

pub sizes_of : (l after left : ℕ) (rest : List ℕ) → (l + 1 + after ≡ left) ⊎ ((l ≡ left) × (rest ≡ [])) → length rest ≡ after → (l + 1 + after ≡ left) ⊎ ((l ≡ left) × (after ≡ 0))
sizes_of l after left rest (inl ended) same = inl ended
sizes_of l after left rest (inr last) same = inr (last.0, sym same ∙ ap length last.1)
