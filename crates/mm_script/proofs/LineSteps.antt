-- How a text is cut into its lines, one after the other.
use Rattle.std.proofs.Common.{◌≡◌, ℕ, ◌+◌, ◌<◌, Bool, true, false, cond, List, [], ◌∷◌, length, take, drop, refl, sym, ap, ◌∙◌, arith, not, suc}
use Rattle.std.specs.List.{onto_first, position_or_len}
use Rattle.std.proofs.lemmas.List.{drop-drop}
use Rattle.mm_script.specs.Lines.{is_line_end, lines}

one_line : (byte : ℕ) (b : Bool) → cond b ([] ∷ []) ((byte ∷ []) ∷ []) ≡ take (cond (not b) 1 0) (byte ∷ []) ∷ lines (drop (cond (not b) 1 0 + 1) (byte ∷ []))
unfolding lines
one_line byte true = refl
one_line byte false = refl

past_first : (k byte : ℕ) (bytes : List ℕ) → drop (1 + k + 1) (byte ∷ bytes) ≡ drop (k + 1) bytes
past_first k byte bytes = ap (λ n. drop n (byte ∷ bytes)) (omega arith ∙ refl {a = suc (k + 1)})

to_first : (k byte : ℕ) (bytes : List ℕ) → take (1 + k) (byte ∷ bytes) ≡ byte ∷ take k bytes
to_first k byte bytes = ap (λ n. take n (byte ∷ bytes)) (omega arith ∙ refl {a = suc k})

more_lines : (byte : ℕ) (bytes : List ℕ) (b : Bool) (k : ℕ) → lines bytes ≡ take k bytes ∷ lines (drop (k + 1) bytes)
    → cond b ([] ∷ lines bytes) (onto_first byte (lines bytes)) ≡ take (cond (not b) (1 + k) 0) (byte ∷ bytes) ∷ lines (drop (cond (not b) (1 + k) 0 + 1) (byte ∷ bytes))
more_lines byte bytes true k is = refl
more_lines byte bytes false k is = ap (onto_first byte) is ∙ sym (rw (to_first, past_first) refl)

-- the first line ends at the first 0A, or at the end
pub first_of : (bytes : List ℕ) → 0 < length bytes → lines bytes ≡ take (position_or_len is_line_end bytes) bytes ∷ lines (drop (position_or_len is_line_end bytes + 1) bytes)
unfolding lines
first_of [] some = absurd (omega arith)
first_of (byte ∷ []) some = one_line byte (is_line_end byte)
first_of (byte ∷ next ∷ bytes) some = more_lines byte (next ∷ bytes) (is_line_end byte) (position_or_len is_line_end (next ∷ bytes)) (first_of (next ∷ bytes) (omega arith))

-- the first line, and what is behind the byte that ends it
pub first_and_rest : (bytes : List ℕ) (end : ℕ) → 0 < length bytes → end ≡ position_or_len is_line_end bytes → lines bytes ≡ take end bytes ∷ lines (drop 1 (drop end bytes))
first_and_rest bytes end some is = first_of bytes some ∙ ap (λ n. take n bytes ∷ lines (drop (n + 1) bytes)) (sym is) ∙ ap (λ rest. take end bytes ∷ lines rest) (sym (drop-drop 1 end bytes))

-- with nothing behind the first line, it is the last
pub last_line : (rest : List ℕ) → length rest ≡ 0 → lines (drop 1 rest) ≡ lines rest
last_line [] none = refl
last_line (byte ∷ rest) none = absurd (omega arith)

pub none_there : (rest : List ℕ) → length rest ≡ 0 → rest ≡ []
none_there [] none = refl
none_there (byte ∷ rest) none = absurd (omega arith)
