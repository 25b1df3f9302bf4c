-- Two hex digits as the crate `hex` reads them.
use Rattle.std.proofs.Common.{◌≡◌, ℕ, ◌+◌, ◌*◌, ◌<◌, ◌≤◌, ◌&&◌, true, List, [], ◌∷◌, length, drop, slice_index_or, Option, Some, None, Result, Ok, Err, refl, sym, ◌∙◌, arith}
use Rattle.std.proofs.lemmas.Bool.{and_from, le-leb}
use Rattle.std.specs.Prelude.{nat_le}
use Rattle.hex.specs.Hex.{hex_digit_value, digit_or_error, pair_value, decode_pairs, decode_sized, ◌>>=◌}
use Rattle.hex.specs.declared.error.FromHexError.{FromHexError}
use Rattle.hex.specs.declared.error.FromHexError.TheVariants.{InvalidHexCharacter}
use Rattle.mm_notation.specs.Reading.{digit_at, pair_at}

-- ---- the byte of two digits

-- a byte as a list
abbrev alone : Result ℕ FromHexError → Result (List ℕ) FromHexError
alone r = r >>= λ b. Ok (b ∷ [])

two_digits : (high low : ℕ) → decode_sized (high ∷ low ∷ []) 1 ≡ alone (pair_value high low 0)
unfolding decode_pairs
two_digits high low = refl

alone_ok : (r : Result ℕ FromHexError) (bytes : List ℕ) → alone r ≡ Ok bytes → Ok (slice_index_or bytes 0 0) ≡ r
alone_ok (Ok x) bytes h =
    let e : x ∷ [] ≡ bytes = cc in
    rw (← e) refl
alone_ok (Err e) bytes h = absurd cc

alone_err : (r : Result ℕ FromHexError) (e : FromHexError) → alone r ≡ Err e → Err e ≡ r
alone_err (Ok x) e h = absurd cc
alone_err (Err d) e h = cc

pub byte_read : (high low : ℕ) (bytes : List ℕ) → decode_sized (high ∷ low ∷ []) 1 ≡ Ok bytes → Ok (slice_index_or bytes 0 0) ≡ pair_value high low 0
byte_read high low bytes h = alone_ok (pair_value high low 0) bytes (sym (two_digits high low) ∙ h)

pub byte_refused : (high low : ℕ) (e : FromHexError) → decode_sized (high ∷ low ∷ []) 1 ≡ Err e → Err e ≡ pair_value high low 0
byte_refused high low e h = alone_err (pair_value high low 0) e (sym (two_digits high low) ∙ h)

-- ---- the places of two digits

small : (c d : ℕ) → hex_digit_value c ≡ Some d → d < 16
small c d h = grind arith

digit_read : (c d : ℕ) (text : List ℕ) → hex_digit_value c ≡ Some d → digit_at 0 15 (c ∷ text) ≡ Ok (d, text)
unfolding digit_at
digit_read c d text h =
    let below : d < 16 = small c d h in
    let range : (nat_le 0 d && nat_le d 15) ≡ true = and_from (nat_le 0 d) (nat_le d 15) (le-leb 0 d (omega arith)) (le-leb d 15 (omega arith)) in
    rw (h, range) refl

digit_refused : (c : ℕ) (text : List ℕ) → hex_digit_value c ≡ None → digit_at 0 15 (c ∷ text) ≡ Err (c ∷ text)
unfolding digit_at
digit_refused c text h = rw h refl

digit_missing : digit_at 0 15 [] ≡ Err []
unfolding digit_at
digit_missing = refl

-- what the crate answers of a text's first two bytes tells what reading them answers: the byte, or the place of the first that is no digit
abbrev pub Tells : List ℕ → Result ℕ FromHexError → Type 0
Tells text (Ok b) = pair_at text ≡ Ok (b, drop 2 text)
Tells text (Err (InvalidHexCharacter c i)) = pair_at text ≡ Err (drop i text)
Tells text (Err e) = ⊥

tells_of : (high low : ℕ) (others : List ℕ) (h l : Option ℕ) → hex_digit_value high ≡ h → hex_digit_value low ≡ l
    → Tells (high ∷ low ∷ others) (digit_or_error high 0 h >>= λ a. digit_or_error low 1 l >>= λ b. Ok (a * 16 + b))
unfolding pair_at
tells_of high low others (Some h) (Some l) eh el = rw (digit_read high h (low ∷ others) eh, digit_read low l others el) refl
tells_of high low others (Some h) None eh el = rw (digit_read high h (low ∷ others) eh, digit_refused low others el) refl
tells_of high low others None l eh el = rw (digit_refused high (low ∷ others) eh) refl

pub tells : (text : List ℕ) → 2 ≤ length text → Tells text (pair_value (slice_index_or text 0 0) (slice_index_or text 1 0) 0)
tells [] fits = absurd (omega arith)
tells (high ∷ []) fits = absurd (omega arith)
tells (high ∷ low ∷ others) fits = tells_of high low others (hex_digit_value high) (hex_digit_value low) refl refl

-- one digit alone is no byte
pub one_digit : (text : List ℕ) (d : ℕ) (rest : List ℕ) → length text < 2 → length rest < length text → digit_at 0 15 text ≡ Ok (d, rest) → pair_at text ≡ Err rest
unfolding pair_at
one_digit text d [] few less h = rw (h, digit_missing) refl
one_digit text d (b ∷ rest) few less h = absurd (omega arith)
