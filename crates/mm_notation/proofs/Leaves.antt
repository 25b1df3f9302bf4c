-- Bytes, words, spaces, integers and hex digits as readers of their languages.
use Rattle.std.proofs.Common.{◌≡◌, ℕ, zero, suc, ◌+◌, ◌-◌, ◌*◌, ◌/◌, ◌%◌, ◌^◌, ◌<◌, ◌≤◌, ◌==◌, ◌&&◌, ◌||◌, ◌⊎◌, inl, inr, Bool, true, false, List, [], ◌∷◌, ◌++◌, length, slice_index, replicate, Option, Some, None, Ok, Err, append_assoc, append-nil, refl, sym, ap, ◌∙◌, arith, pos}
use Rattle.std.specs.Prelude.{if◌then◌else◌, nat_le, nat_lt, ◌≢◌, ℤ}
use Rattle.std.specs.Fmt.{decimal}
use Rattle.std.proofs.lemmas.Fmt.{decimal_step, decimal_digit, decimal_by_steps}
use Rattle.std.proofs.lemmas.Bool.{eqb-true, eqb-false, eq-eqb, ne_eqb, leb-true, le-leb, ltb-false, le-ltb, and_parts, and_from, or_parts, or_from, cases_Bool}
use Rattle.std.proofs.lemmas.List.{length-append}
use Rattle.hex.specs.Hex.{hex_digit_value, lower_digits}
use Rattle.hex.proofs.HexLemmas.{IsDigits-lower_digits}
use Rattle.mm_notation.specs.Grammar.{Word, Spaces, Mark, negated, Integer}
use Rattle.mm_notation.specs.Reading.{Read, ◌>>=◌, byte_at, skip, word_at, mark_at, is_digit, digits_at, natural_at, integer_at, unsigned_at, digit_or, digit_at}
use Rattle.mm_notation.proofs.Core.{Core, Any, Then, IsRead, pair_of, equal_core, bind_ok, bind_err, then_core, pure_core, same_core, map_core, Moved, moved_ok, moved_err, moved_past, if_moved, Ends, ends_of, spent, map_moves, Completed}

pub chosen : {A : Type 0} (t : Bool) (x y z : A) → (if t then x else y) ≡ z → ((t ≡ true) × (x ≡ z)) ⊎ ((t ≡ false) × (y ≡ z))
chosen true x y z h = inl (refl, h)
chosen false x y z h = inr (refl, h)

-- what was tested first was so
pub kept_ok : {A : Type 0} (t : Bool) (x y : A) (r : List ℕ) → IsRead (if t then Ok x else Err r) (Ok y) → (t ≡ true) × (x ≡ y)
kept_ok true x y r h = (refl, cc)
kept_ok false x y r h = absurd cc

pub kept_err : {A : Type 0} (t : Bool) (x : A) (r s : List ℕ) → IsRead (if t then Ok x else Err r) (Err s) → (t ≡ false) × (r ≡ s)
kept_err true x r s h = absurd cc
kept_err false x r s h = (refl, cc)

-- ---- bytes

byte_takes : (byte : ℕ) (text : List ℕ) (v : Unit {0}) (r : List ℕ) → byte_at byte text ≡ Ok (v, r) → (s : List ℕ) × (text ≡ s ++ r) × Word (byte ∷ []) s
unfolding byte_at
byte_takes byte [] v r h = absurd cc
byte_takes byte (b ∷ text) v r h =
    let k = kept_ok (b == byte) (tt, text) (v, r) (b ∷ text) h in
    let same : b ≡ byte = eqb-true b byte k.0 in
    let rest : text ≡ r = ap (λ (p : Unit {0} × List ℕ). p.1) k.1 in
    (byte ∷ [], rw (same, rest) refl, refl)

byte_again : (byte : ℕ) (v : Unit {0}) (s r : List ℕ) → Word (byte ∷ []) s → Unit {0} → byte_at byte (s ++ r) ≡ Ok (v, r)
unfolding byte_at
byte_again byte v s r l h = rw (l, eq-eqb byte byte refl) refl

byte_stands : (byte : ℕ) (text r : List ℕ) → byte_at byte text ≡ Err r → (p : List ℕ) × (text ≡ p ++ r)
unfolding byte_at
byte_stands byte [] r h = ([], cc)
byte_stands byte (b ∷ text) r h =
    let k = kept_err (b == byte) (tt, text) (b ∷ text) r h in
    ([], k.1)

byte_stops : (byte : ℕ) (text r : List ℕ) → byte_at byte text ≡ Err r → Completed (λ (v : Unit {0}) s. Word (byte ∷ []) s) text r
unfolding byte_at
byte_stops byte [] r h = ([], byte ∷ [], tt, cc, refl)
byte_stops byte (b ∷ text) r h = ([], byte ∷ [], tt, (kept_err (b == byte) (tt, text) (b ∷ text) r h).1, refl)

byte_moves : (byte : ℕ) (p : List ℕ) (c : ℕ) (x y : List ℕ) → Moved (c ∷ x) (c ∷ y) (byte_at byte (p ++ c ∷ x)) (byte_at byte (p ++ c ∷ y))
unfolding byte_at
byte_moves byte [] c x y = if_moved (c == byte) (c ∷ x) (c ∷ y) (Ok (tt, x)) (Err (c ∷ x)) (Ok (tt, y)) (Err (c ∷ y)) (moved_past tt c x (c ∷ y) (Ok (tt, y))) (moved_err [] (c ∷ x) (c ∷ y))
byte_moves byte (d ∷ p) c x y = if_moved (d == byte) (c ∷ x) (c ∷ y) (Ok (tt, p ++ c ∷ x)) (Err (d ∷ (p ++ c ∷ x))) (Ok (tt, p ++ c ∷ y)) (Err (d ∷ (p ++ c ∷ y))) (moved_ok tt p (c ∷ x) (c ∷ y)) (moved_err (d ∷ p) (c ∷ x) (c ∷ y))

pub byte_core : (byte : ℕ) → Core Any (λ v s. Word (byte ∷ []) s) (byte_at byte)
byte_core byte = record { takes = byte_takes byte; again = byte_again byte; stands = byte_stands byte; moves = byte_moves byte; stops = λ text r fine h. byte_stops byte text r h }

-- ---- spaces

abbrev pub Spaceless : List ℕ → Type 0
Spaceless [] = Unit {0}
Spaceless (b ∷ r) = b ≢ 0x20

abbrev pub NotSpace : {A : Type 0} → A → List ℕ → Type 0
NotSpace v r = Spaceless r

skip_takes : (text : List ℕ) → (n : ℕ) × (text ≡ replicate n 0x20 ++ skip text)
skip_takes [] = (0, refl)
skip_takes (b ∷ text) =
    elim (cases_Bool (b == 0x20)) [
      | inl hit ↦
          let more = skip_takes text in
          let same : b ≡ 0x20 = eqb-true b 0x20 hit in
          let rest : skip (b ∷ text) ≡ skip text = rw hit refl in
          (suc more.0, rw (rest, same) (ap (λ (t : List ℕ). 0x20 ∷ t) more.1))
      | inr miss ↦
          let rest : skip (b ∷ text) ≡ b ∷ text = rw miss refl in
          (0, sym rest)
    ]

skip_again : (n : ℕ) (r : List ℕ) → Spaceless r → skip (replicate n 0x20 ++ r) ≡ r
skip_again zero [] h = refl
skip_again zero (b ∷ r) h = rw (ne_eqb b 0x20 h) refl
skip_again (suc n) r h = skip_again n r h

skip_moves : (p : List ℕ) (c : ℕ) (x y : List ℕ) → Moved {A = Unit {0}} (c ∷ x) (c ∷ y) (Ok (tt, skip (p ++ c ∷ x))) (Ok (tt, skip (p ++ c ∷ y)))
skip_moves [] c x y =
    elim (cases_Bool (c == 0x20)) [
      | inl hit ↦ rw hit (λ q e. absurd (omega (arith, ap length (skip_takes x).1, length-append (replicate (skip_takes x).0 0x20) (skip x), ap length e, length-append q (c ∷ x))))
      | inr miss ↦ rw miss (moved_ok tt [] (c ∷ x) (c ∷ y))
    ]
skip_moves (d ∷ p) c x y =
    elim (cases_Bool (d == 0x20)) [
      | inl hit ↦ rw hit (skip_moves p c x y)
      | inr miss ↦ rw miss (moved_ok tt (d ∷ p) (c ∷ x) (c ∷ y))
    ]

pub spaces_core : Core NotSpace (λ (v : Unit {0}) s. Spaces s) (λ text. Ok (tt, skip text))
spaces_core = record {
  takes = λ text v r h.
      let t = skip_takes text in
      let e = pair_of tt v (skip text) r h in
      (replicate t.0 0x20, t.1 ∙ ap (λ (u : List ℕ). replicate t.0 0x20 ++ u) e.1, (t.0, refl));
  again = λ v s r l h. rw (l.1, skip_again l.0 r h) refl;
  stands = λ text r h. absurd cc;
  moves = skip_moves;
  stops = λ text r fine h. absurd cc;
}

pub mark_core : (byte : ℕ) → byte ≢ 0x20 → Core Any (λ v s. Mark byte s) (mark_at byte)
unfolding mark_at
mark_core byte ne = same_core Any Any (Then (λ (v : Unit {0}) s. Spaces s) (λ v w s. Word (byte ∷ []) s)) (λ v s. Mark byte s) (mark_at byte)
    (then_core NotSpace (λ (v : Unit {0}) s. Spaces s) (λ text. Ok (tt, skip text)) Any (λ v w s. Word (byte ∷ []) s) (λ v. byte_at byte) spaces_core (λ v. byte_core byte) (λ v w b r l h. rw l ne))
    (λ v s l. l.1) (λ v s l. (tt, l)) (λ v r h. tt)

pub word_core : (word : List ℕ) → Core Any (λ v s. Word word s) (word_at word)
unfolding word_at
word_core [] = same_core Any Any (λ w s. (w ≡ tt) × (s ≡ [])) (λ v s. Word [] s) (word_at []) (pure_core tt) (λ v s l. l.1) (λ v s l. (refl, l)) (λ v r h. tt)
word_core (byte ∷ word) = same_core Any Any (Then (λ (v : Unit {0}) s. Word (byte ∷ []) s) (λ v w s. Word word s)) (λ v s. Word (byte ∷ word) s) (word_at (byte ∷ word))
    (then_core Any (λ (v : Unit {0}) s. Word (byte ∷ []) s) (byte_at byte) Any (λ v w s. Word word s) (λ v. word_at word) (byte_core byte) (λ v. word_core word) (λ v w b r l h. tt))
    (λ v s l. rw (l.1.2, l.1.3, l.1.4) refl) (λ v s l. (tt, (byte ∷ [], word, l, refl, refl))) (λ v r h. tt)

-- ---- integers

abbrev pub Digitless : List ℕ → Type 0
Digitless [] = Unit {0}
Digitless (b ∷ r) = is_digit b ≡ false

abbrev pub NotDigit : {A : Type 0} → A → List ℕ → Type 0
NotDigit v r = Digitless r

digit_bounds : (b : ℕ) → is_digit b ≡ true → (48 ≤ b) × (b ≤ 57)
digit_bounds b h =
    let p = and_parts (nat_le 0x30 b) (nat_le b 0x39) h in
    (leb-true 0x30 b p.0, leb-true b 0x39 p.1)

pub digit_is : (d : ℕ) → d < 10 → is_digit (48 + d) ≡ true
digit_is d h = and_from (nat_le 0x30 (48 + d)) (nat_le (48 + d) 0x39) (le-leb 0x30 (48 + d) (omega arith)) (le-leb (48 + d) 0x39 (omega arith))

-- the digits of n, and one more
push_digit : (n d : ℕ) → 0 < n → d < 10 → n * 10 + d < 2 ^ 64 → decimal (n * 10 + d) ≡ decimal n ++ (48 + d) ∷ []
push_digit n d some small fits =
    let front : (n * 10 + d) / 10 ≡ n = omega arith in
    let last : (n * 10 + d) % 10 ≡ d = omega arith in
    decimal_step (n * 10 + d) (omega arith) fits ∙ rw (front, last) refl

digits_take : (limit n : ℕ) → limit < 2 ^ 64 → n ≤ limit → (text : List ℕ) (m : ℕ) (r : List ℕ) → digits_at limit n text ≡ Ok (m, r)
    → (s : List ℕ) × (text ≡ s ++ r) × (decimal n ++ s ≡ decimal m) × (m ≤ limit)
digits_take limit n fits most [] m r h =
    let e = pair_of n m [] r h in
    ([], e.1, append-nil (decimal n) ∙ ap decimal e.0, omega (arith, e.0))
digits_take limit n fits most (b ∷ text) m r h =
    elim (chosen (is_digit b) (if n == 0 || nat_lt limit (n * 10 + (b - 0x30)) then Err (b ∷ text) else digits_at limit (n * 10 + (b - 0x30)) text) (Ok (n, b ∷ text)) (Ok (m, r)) h) [
      | inl hit ↦
          elim (chosen (n == 0 || nat_lt limit (n * 10 + (b - 0x30))) (Err (b ∷ text)) (digits_at limit (n * 10 + (b - 0x30)) text) (Ok (m, r)) hit.1) [
            | inl bad ↦ absurd (cc (bad.1))
            | inr good ↦
                let parts = or_parts (n == 0) (nat_lt limit (n * 10 + (b - 0x30))) good.0 in
                let bounds = digit_bounds b hit.0 in
                let d : ℕ = b - 0x30 in
                let some : n ≡ 0 → ⊥ = eqb-false n 0 parts.0 in
                let positive : 0 < n = grind (arith, some) in
                let below : n * 10 + d ≤ limit = ltb-false limit (n * 10 + d) parts.1 in
                let more = digits_take limit (n * 10 + d) fits below text m r good.1 in
                let same : 48 + d ≡ b = omega (arith, bounds.0) in
                let pushed : decimal (n * 10 + d) ≡ decimal n ++ (48 + d) ∷ [] = push_digit n d positive (omega (arith, bounds.0, bounds.1)) (omega arith) in
                (b ∷ more.0, ap (λ (t : List ℕ). b ∷ t) more.1, sym (append_assoc (decimal n) (b ∷ []) more.0) ∙ ap (λ (t : List ℕ). t ++ more.0) (ap (λ (k : ℕ). decimal n ++ k ∷ []) (sym same) ∙ sym pushed) ∙ more.2, more.3)
          ]
      | inr miss ↦
          let e = pair_of n m (b ∷ text) r miss.1 in
          ([], e.1, append-nil (decimal n) ∙ ap decimal e.0, omega (arith, e.0))
    ]

digits_stand : (limit : ℕ) (text : List ℕ) (n : ℕ) (r : List ℕ) → digits_at limit n text ≡ Err r → (p : List ℕ) × (text ≡ p ++ r)
digits_stand limit [] n r h = absurd cc
digits_stand limit (b ∷ text) n r h =
    elim (chosen (is_digit b) (if n == 0 || nat_lt limit (n * 10 + (b - 0x30)) then Err (b ∷ text) else digits_at limit (n * 10 + (b - 0x30)) text) (Ok (n, b ∷ text)) (Err r) h) [
      | inl hit ↦
          elim (chosen (n == 0 || nat_lt limit (n * 10 + (b - 0x30))) (Err (b ∷ text)) (digits_at limit (n * 10 + (b - 0x30)) text) (Err r) hit.1) [
            | inl bad ↦
                let same : b ∷ text ≡ r = cc (bad.1) in
                ([], same)
            | inr good ↦
                let more = digits_stand limit text (n * 10 + (b - 0x30)) r good.1 in
                (b ∷ more.0, ap (λ (t : List ℕ). b ∷ t) more.1)
          ]
      | inr miss ↦ absurd (cc (miss.1))
    ]

digits_end : (limit n : ℕ) (r : List ℕ) → Digitless r → digits_at limit n r ≡ Ok (n, r)
digits_end limit n [] h = refl
digits_end limit n (b ∷ r) h = rw h refl

natural_digits : (limit : ℕ) → (n : ℕ) → n < 2 ^ 64 → (r : List ℕ) → n ≤ limit → natural_at limit (decimal n ++ r) ≡ digits_at limit n r
unfolding natural_at
natural_digits limit n fits r =
    decimal_by_steps (λ k ds. (r : List ℕ) → k ≤ limit → natural_at limit (ds ++ r) ≡ digits_at limit k r)
    (λ k small r le.
    let d : (48 + k) - 48 ≡ k = omega arith in
    let t : (is_digit (48 + k) && nat_le ((48 + k) - 48) limit) ≡ true = rw d (and_from (is_digit (48 + k)) (nat_le k limit) (digit_is k small) (le-leb k limit le)) in
    rw (t, d) refl)
    (λ k ds big ih r le.
    let d : ℕ = k % 10 in
    let q : ℕ = k / 10 in
    let whole : q * 10 + d ≡ k = omega arith in
    let e : (48 + d) - 48 ≡ d = omega arith in
    let some : (q == 0) ≡ false = ne_eqb q 0 (λ z. omega (arith, z)) in
    let below : nat_lt limit (q * 10 + ((48 + d) - 48)) ≡ false = le-ltb limit (q * 10 + ((48 + d) - 48)) (omega (arith, e)) in
    let test : (q == 0 || nat_lt limit (q * 10 + ((48 + d) - 48))) ≡ false = or_from (q == 0) (nat_lt limit (q * 10 + ((48 + d) - 48))) some below in
    let step : digits_at limit q ((48 + d) ∷ r) ≡ digits_at limit k r = rw (digit_is d (omega arith), test, e, whole) refl in
    ap (natural_at limit) (append_assoc ds ((48 + d) ∷ []) r) ∙ ih ((48 + d) ∷ r) (omega arith) ∙ step)
    n fits r

natural_takes : (limit : ℕ) → limit < 2 ^ 64 → (text : List ℕ) (v : ℕ) (r : List ℕ) → natural_at limit text ≡ Ok (v, r) → (s : List ℕ) × (text ≡ s ++ r) × ((v ≤ limit) × (s ≡ decimal v))
unfolding natural_at
natural_takes limit fits [] v r h = absurd cc
natural_takes limit fits (b ∷ text) v r h =
    elim (chosen (is_digit b && nat_le (b - 0x30) limit) (digits_at limit (b - 0x30) text) (Err (b ∷ text)) (Ok (v, r)) h) [
      | inl hit ↦
          let parts = and_parts (is_digit b) (nat_le (b - 0x30) limit) hit.0 in
          let bounds = digit_bounds b parts.0 in
          let more = digits_take limit (b - 0x30) fits (leb-true (b - 0x30) limit parts.1) text v r hit.1 in
          let one : decimal (b - 0x30) ≡ b ∷ [] = decimal_digit (b - 0x30) (omega (arith, bounds.1)) ∙ ap (λ (k : ℕ). k ∷ []) (omega (arith, bounds.0)) in
          let whole : b ∷ more.0 ≡ decimal v = ap (λ (t : List ℕ). t ++ more.0) (sym one) ∙ more.2 in
          (b ∷ more.0, ap (λ (t : List ℕ). b ∷ t) more.1, (more.3, whole))
      | inr miss ↦ absurd (cc (miss.1))
    ]

natural_stands : (limit : ℕ) (text r : List ℕ) → natural_at limit text ≡ Err r → (p : List ℕ) × (text ≡ p ++ r)
unfolding natural_at
natural_stands limit [] r h = ([], cc)
natural_stands limit (b ∷ text) r h =
    elim (chosen (is_digit b && nat_le (b - 0x30) limit) (digits_at limit (b - 0x30) text) (Err (b ∷ text)) (Err r) h) [
      | inl hit ↦
          let more = digits_stand limit text (b - 0x30) r hit.1 in
          (b ∷ more.0, ap (λ (t : List ℕ). b ∷ t) more.1)
      | inr miss ↦
          let same : b ∷ text ≡ r = cc (miss.1) in
          ([], same)
    ]

abbrev pub Natural : ℕ → ℕ → List ℕ → Type 0
Natural limit n s = (n ≤ limit) × (s ≡ decimal n)

digits_suffix : (limit : ℕ) (text : List ℕ) (n v : ℕ) (r : List ℕ) → digits_at limit n text ≡ Ok (v, r) → (s : List ℕ) × (text ≡ s ++ r)
digits_suffix limit [] n v r h = ([], (pair_of n v [] r h).1)
digits_suffix limit (b ∷ text) n v r h =
    elim (chosen (is_digit b) (if n == 0 || nat_lt limit (n * 10 + (b - 0x30)) then Err (b ∷ text) else digits_at limit (n * 10 + (b - 0x30)) text) (Ok (n, b ∷ text)) (Ok (v, r)) h) [
      | inl hit ↦
          elim (chosen (n == 0 || nat_lt limit (n * 10 + (b - 0x30))) (Err (b ∷ text)) (digits_at limit (n * 10 + (b - 0x30)) text) (Ok (v, r)) hit.1) [
            | inl bad ↦ absurd (cc (bad.1))
            | inr good ↦
                let more = digits_suffix limit text (n * 10 + (b - 0x30)) v r good.1 in
                (b ∷ more.0, ap (λ (t : List ℕ). b ∷ t) more.1)
          ]
      | inr miss ↦ ([], (pair_of n v (b ∷ text) r miss.1).1)
    ]

digits_end_of : (limit n : ℕ) → Ends (digits_at limit n)
digits_end_of limit n = (λ text v r h. digits_suffix limit text n v r h, λ text r h. digits_stand limit text n r h)

digits_move : (limit : ℕ) (p : List ℕ) (n c : ℕ) (x y : List ℕ) → Moved (c ∷ x) (c ∷ y) (digits_at limit n (p ++ c ∷ x)) (digits_at limit n (p ++ c ∷ y))
digits_move limit [] n c x y =
    if_moved (is_digit c) (c ∷ x) (c ∷ y) (if n == 0 || nat_lt limit (n * 10 + (c - 0x30)) then Err (c ∷ x) else digits_at limit (n * 10 + (c - 0x30)) x) (Ok (n, c ∷ x))
    (if n == 0 || nat_lt limit (n * 10 + (c - 0x30)) then Err (c ∷ y) else digits_at limit (n * 10 + (c - 0x30)) y) (Ok (n, c ∷ y))
    (if_moved (n == 0 || nat_lt limit (n * 10 + (c - 0x30))) (c ∷ x) (c ∷ y) (Err (c ∷ x)) (digits_at limit (n * 10 + (c - 0x30)) x) (Err (c ∷ y)) (digits_at limit (n * 10 + (c - 0x30)) y)
    (moved_err [] (c ∷ x) (c ∷ y)) (spent (digits_at limit (n * 10 + (c - 0x30))) (digits_end_of limit (n * 10 + (c - 0x30))) c x (c ∷ y) (digits_at limit (n * 10 + (c - 0x30)) y)))
    (moved_ok n [] (c ∷ x) (c ∷ y))
digits_move limit (d ∷ p) n c x y =
    if_moved (is_digit d) (c ∷ x) (c ∷ y) (if n == 0 || nat_lt limit (n * 10 + (d - 0x30)) then Err (d ∷ (p ++ c ∷ x)) else digits_at limit (n * 10 + (d - 0x30)) (p ++ c ∷ x)) (Ok (n, d ∷ (p ++ c ∷ x)))
    (if n == 0 || nat_lt limit (n * 10 + (d - 0x30)) then Err (d ∷ (p ++ c ∷ y)) else digits_at limit (n * 10 + (d - 0x30)) (p ++ c ∷ y)) (Ok (n, d ∷ (p ++ c ∷ y)))
    (if_moved (n == 0 || nat_lt limit (n * 10 + (d - 0x30))) (c ∷ x) (c ∷ y) (Err (d ∷ (p ++ c ∷ x))) (digits_at limit (n * 10 + (d - 0x30)) (p ++ c ∷ x)) (Err (d ∷ (p ++ c ∷ y))) (digits_at limit (n * 10 + (d - 0x30)) (p ++ c ∷ y))
    (moved_err (d ∷ p) (c ∷ x) (c ∷ y)) (digits_move limit p (n * 10 + (d - 0x30)) c x y))
    (moved_ok n (d ∷ p) (c ∷ x) (c ∷ y))

natural_moves : (limit : ℕ) (p : List ℕ) (c : ℕ) (x y : List ℕ) → Moved (c ∷ x) (c ∷ y) (natural_at limit (p ++ c ∷ x)) (natural_at limit (p ++ c ∷ y))
unfolding natural_at
natural_moves limit [] c x y =
    if_moved (is_digit c && nat_le (c - 0x30) limit) (c ∷ x) (c ∷ y) (digits_at limit (c - 0x30) x) (Err (c ∷ x)) (digits_at limit (c - 0x30) y) (Err (c ∷ y))
    (spent (digits_at limit (c - 0x30)) (digits_end_of limit (c - 0x30)) c x (c ∷ y) (digits_at limit (c - 0x30) y)) (moved_err [] (c ∷ x) (c ∷ y))
natural_moves limit (d ∷ p) c x y =
    if_moved (is_digit d && nat_le (d - 0x30) limit) (c ∷ x) (c ∷ y) (digits_at limit (d - 0x30) (p ++ c ∷ x)) (Err (d ∷ (p ++ c ∷ x))) (digits_at limit (d - 0x30) (p ++ c ∷ y)) (Err (d ∷ (p ++ c ∷ y)))
    (digits_move limit p (d - 0x30) c x y) (moved_err (d ∷ p) (c ∷ x) (c ∷ y))

digits_stop : (limit n : ℕ) → limit < 2 ^ 64 → n ≤ limit → (text r : List ℕ) → digits_at limit n text ≡ Err r
    → (p : List ℕ) × (text ≡ p ++ r) × (m : ℕ) × (decimal n ++ p ≡ decimal m) × (m ≤ limit)
digits_stop limit n fits most [] r h = absurd cc
digits_stop limit n fits most (b ∷ text) r h =
    elim (chosen (is_digit b) (if n == 0 || nat_lt limit (n * 10 + (b - 0x30)) then Err (b ∷ text) else digits_at limit (n * 10 + (b - 0x30)) text) (Ok (n, b ∷ text)) (Err r) h) [
      | inl hit ↦
          elim (chosen (n == 0 || nat_lt limit (n * 10 + (b - 0x30))) (Err (b ∷ text)) (digits_at limit (n * 10 + (b - 0x30)) text) (Err r) hit.1) [
            | inl bad ↦
                let same : b ∷ text ≡ r = cc (bad.1) in
                ([], same, n, append-nil (decimal n), most)
            | inr good ↦
                let parts = or_parts (n == 0) (nat_lt limit (n * 10 + (b - 0x30))) good.0 in
                let bounds = digit_bounds b hit.0 in
                let d : ℕ = b - 0x30 in
                let some : n ≡ 0 → ⊥ = eqb-false n 0 parts.0 in
                let positive : 0 < n = grind (arith, some) in
                let below : n * 10 + d ≤ limit = ltb-false limit (n * 10 + d) parts.1 in
                let more = digits_stop limit (n * 10 + d) fits below text r good.1 in
                let same : 48 + d ≡ b = omega (arith, bounds.0) in
                let pushed : decimal (n * 10 + d) ≡ decimal n ++ (48 + d) ∷ [] = push_digit n d positive (omega (arith, bounds.0, bounds.1)) (omega arith) in
                (b ∷ more.0, ap (λ (t : List ℕ). b ∷ t) more.1, more.2, sym (append_assoc (decimal n) (b ∷ []) more.0) ∙ ap (λ (t : List ℕ). t ++ more.0) (ap (λ (k : ℕ). decimal n ++ k ∷ []) (sym same) ∙ sym pushed) ∙ more.3, more.4)
          ]
      | inr miss ↦ absurd (cc (miss.1))
    ]

natural_stops : (limit : ℕ) → limit < 2 ^ 64 → (text r : List ℕ) → natural_at limit text ≡ Err r → Completed (Natural limit) text r
unfolding natural_at
natural_stops limit fits [] r h = ([], decimal 0, 0, cc, (omega arith, refl))
natural_stops limit fits (b ∷ text) r h =
    elim (chosen (is_digit b && nat_le (b - 0x30) limit) (digits_at limit (b - 0x30) text) (Err (b ∷ text)) (Err r) h) [
      | inl hit ↦
          let parts = and_parts (is_digit b) (nat_le (b - 0x30) limit) hit.0 in
          let bounds = digit_bounds b parts.0 in
          let more = digits_stop limit (b - 0x30) fits (leb-true (b - 0x30) limit parts.1) text r hit.1 in
          let one : decimal (b - 0x30) ≡ b ∷ [] = decimal_digit (b - 0x30) (omega (arith, bounds.1)) ∙ ap (λ (k : ℕ). k ∷ []) (omega (arith, bounds.0)) in
          let whole : (b ∷ more.0) ++ [] ≡ decimal more.2 = append-nil (b ∷ more.0) ∙ ap (λ (t : List ℕ). t ++ more.0) (sym one) ∙ more.3 in
          (b ∷ more.0, [], more.2, ap (λ (t : List ℕ). b ∷ t) more.1, (more.4, whole))
      | inr miss ↦
          let same : b ∷ text ≡ r = cc (miss.1) in
          ([], decimal 0, 0, same, (omega arith, refl))
    ]

pub natural_core : (limit : ℕ) → limit < 2 ^ 64 → Core NotDigit (Natural limit) (natural_at limit)
natural_core limit fits = record {
  takes = natural_takes limit fits;
  again = λ n s r l h. rw (l.1) (natural_digits limit n (omega (arith, l.0)) r l.0 ∙ digits_end limit n r h);
  stands = natural_stands limit;
  moves = natural_moves limit;
  stops = λ text r fine h. natural_stops limit fits text r h;
}

-- a number without a sign doesn't begin with one
unsigned_front : (limit : ℕ) (b : ℕ) (text : List ℕ) (x : ℕ × List ℕ) → natural_at limit (b ∷ text) ≡ Ok x → (b == 0x2d) ≡ false
unfolding natural_at
unsigned_front limit b text x h =
    elim (chosen (is_digit b && nat_le (b - 0x30) limit) (digits_at limit (b - 0x30) text) (Err (b ∷ text)) (Ok x) h) [
      | inl hit ↦
          let bounds = digit_bounds b (and_parts (is_digit b) (nat_le (b - 0x30) limit) hit.0).0 in
          ne_eqb b 0x2d (λ e. omega (arith, e, bounds.0))
      | inr miss ↦ absurd (cc (miss.1))
    ]

-- an integer of at most so many below 0, and so many above
abbrev pub Ranged : ℕ → ℕ → ℤ → List ℕ → Type 0
Ranged low high z s = (n : ℕ) × (((z ≡ pos n) × Natural high n s) ⊎ ((z ≡ negated n) × ((n ≤ low) × (s ≡ 0x2d ∷ decimal n))))

module _ {A : Type 0} (f g : ℕ → A) (low high : ℕ) where
  -- with a sign, and without one
  abbrev signed_at : List ℕ → Read A
  signed_at [] = Err []
  signed_at (b ∷ text) = if b == 0x2d then (natural_at low text >>= λ n. Ok (f n.0, n.1)) else (natural_at high (b ∷ text) >>= λ n. Ok (g n.0, n.1))

  abbrev Signed : A → List ℕ → Type 0
  Signed z s = (n : ℕ) × (((z ≡ g n) × Natural high n s) ⊎ ((z ≡ f n) × ((n ≤ low) × (s ≡ 0x2d ∷ decimal n))))

  signed_takes : low < 2 ^ 64 → high < 2 ^ 64 → (text : List ℕ) (z : A) (r : List ℕ) → signed_at text ≡ Ok (z, r) → (s : List ℕ) × (text ≡ s ++ r) × Signed z s
  signed_takes lf hf [] z r h = absurd cc
  signed_takes lf hf (b ∷ text) z r h =
      elim (chosen (b == 0x2d) (natural_at low text >>= λ n. Ok (f n.0, n.1)) (natural_at high (b ∷ text) >>= λ n. Ok (g n.0, n.1)) (Ok (z, r)) h) [
        | inl hit ↦
            let x = bind_ok (natural_at low text) (λ n. Ok (f n.0, n.1)) (z, r) hit.1 in
            let e = pair_of (f x.0.0) z x.0.1 r x.2 in
            let t = natural_takes low lf text x.0.0 x.0.1 x.1 in
            let same : b ≡ 0x2d = eqb-true b 0x2d hit.0 in
            (0x2d ∷ t.0, rw (same) (ap (λ (u : List ℕ). 0x2d ∷ u) (t.1 ∙ ap (λ (u : List ℕ). t.0 ++ u) e.1)), (x.0.0, inr (sym e.0, (t.2.0, ap (λ (u : List ℕ). 0x2d ∷ u) t.2.1))))
        | inr miss ↦
            let x = bind_ok (natural_at high (b ∷ text)) (λ n. Ok (g n.0, n.1)) (z, r) miss.1 in
            let e = pair_of (g x.0.0) z x.0.1 r x.2 in
            let t = natural_takes high hf (b ∷ text) x.0.0 x.0.1 x.1 in
            (t.0, t.1 ∙ ap (λ (u : List ℕ). t.0 ++ u) e.1, (x.0.0, inl (sym e.0, t.2)))
      ]

  signed_front : (text : List ℕ) (n : ℕ) (r : List ℕ) → natural_at high text ≡ Ok (n, r) → signed_at text ≡ Ok (g n, r)
  unfolding natural_at
  signed_front [] n r h = absurd cc
  signed_front (b ∷ text) n r h = rw (unsigned_front high b text (n, r) h, h) refl

  signed_again : low < 2 ^ 64 → high < 2 ^ 64 → (z : A) (s r : List ℕ) → Signed z s → Digitless r → signed_at (s ++ r) ≡ Ok (z, r)
  signed_again lf hf z s r (n, inl l) h =
      let read : natural_at high (s ++ r) ≡ Ok (n, r) = (natural_core high hf).again n s r l.1 h in
      rw (l.0) (signed_front (s ++ r) n r read)
  signed_again lf hf z s r (n, inr l) h =
      let read : natural_at low (decimal n ++ r) ≡ Ok (n, r) = (natural_core low lf).again n (decimal n) r (l.1.0, refl) h in
      rw (l.0, l.1.1, read) refl

  signed_stands : (text r : List ℕ) → signed_at text ≡ Err r → (p : List ℕ) × (text ≡ p ++ r)
  signed_stands [] r h = ([], cc)
  signed_stands (b ∷ text) r h =
      elim (chosen (b == 0x2d) (natural_at low text >>= λ n. Ok (f n.0, n.1)) (natural_at high (b ∷ text) >>= λ n. Ok (g n.0, n.1)) (Err r) h) [
        | inl hit ↦
            elim (bind_err (natural_at low text) (λ n. Ok (f n.0, n.1)) r hit.1) [
              | inl e ↦
                  let p = natural_stands low text r e in
                  (b ∷ p.0, ap (λ (u : List ℕ). b ∷ u) p.1)
              | inr x ↦ absurd (cc (x.2))
            ]
        | inr miss ↦
            elim (bind_err (natural_at high (b ∷ text)) (λ n. Ok (g n.0, n.1)) r miss.1) [
              | inl e ↦ natural_stands high (b ∷ text) r e
              | inr x ↦ absurd (cc (x.2))
            ]
      ]

  signed_moves : low < 2 ^ 64 → high < 2 ^ 64 → (p : List ℕ) (c : ℕ) (x y : List ℕ) → Moved (c ∷ x) (c ∷ y) (signed_at (p ++ c ∷ x)) (signed_at (p ++ c ∷ y))
  signed_moves lf hf [] c x y =
      let under : Core (λ n r. Digitless r) (λ w s. (v : ℕ) × (w ≡ f v) × Natural low v s) (λ text. natural_at low text >>= λ n. Ok (f n.0, n.1)) = map_core Digitless (Natural low) (natural_at low) f (natural_core low lf) in
      if_moved (c == 0x2d) (c ∷ x) (c ∷ y) (natural_at low x >>= λ n. Ok (f n.0, n.1)) (natural_at high (c ∷ x) >>= λ n. Ok (g n.0, n.1)) (natural_at low y >>= λ n. Ok (f n.0, n.1)) (natural_at high (c ∷ y) >>= λ n. Ok (g n.0, n.1))
      (spent (λ text. natural_at low text >>= λ n. Ok (f n.0, n.1)) (ends_of (λ n r. Digitless r) (λ w s. (v : ℕ) × (w ≡ f v) × Natural low v s) (λ text. natural_at low text >>= λ n. Ok (f n.0, n.1)) under) c x (c ∷ y) (natural_at low y >>= λ n. Ok (f n.0, n.1)))
      (map_moves g (c ∷ x) (c ∷ y) (natural_at high (c ∷ x)) (natural_at high (c ∷ y)) (natural_moves high [] c x y))
  signed_moves lf hf (d ∷ p) c x y =
      if_moved (d == 0x2d) (c ∷ x) (c ∷ y) (natural_at low (p ++ c ∷ x) >>= λ n. Ok (f n.0, n.1)) (natural_at high (d ∷ (p ++ c ∷ x)) >>= λ n. Ok (g n.0, n.1))
      (natural_at low (p ++ c ∷ y) >>= λ n. Ok (f n.0, n.1)) (natural_at high (d ∷ (p ++ c ∷ y)) >>= λ n. Ok (g n.0, n.1))
      (map_moves f (c ∷ x) (c ∷ y) (natural_at low (p ++ c ∷ x)) (natural_at low (p ++ c ∷ y)) (natural_moves low p c x y))
      (map_moves g (c ∷ x) (c ∷ y) (natural_at high (d ∷ (p ++ c ∷ x))) (natural_at high (d ∷ (p ++ c ∷ y))) (natural_moves high (d ∷ p) c x y))

  signed_stops : low < 2 ^ 64 → high < 2 ^ 64 → (text r : List ℕ) → signed_at text ≡ Err r → Completed Signed text r
  signed_stops lf hf [] r h = ([], decimal 0, g 0, cc, (0, inl (refl, (omega arith, refl))))
  signed_stops lf hf (b ∷ text) r h =
      elim (chosen (b == 0x2d) (natural_at low text >>= λ n. Ok (f n.0, n.1)) (natural_at high (b ∷ text) >>= λ n. Ok (g n.0, n.1)) (Err r) h) [
        | inl hit ↦
            elim (bind_err (natural_at low text) (λ n. Ok (f n.0, n.1)) r hit.1) [
              | inl e ↦
                  let k = natural_stops low lf text r e in
                  let same : b ≡ 0x2d = eqb-true b 0x2d hit.0 in
                  (0x2d ∷ k.0, k.1, f k.2, rw same (ap (λ (u : List ℕ). 0x2d ∷ u) k.3), (k.2, inr (refl, (k.4.0, ap (λ (u : List ℕ). 0x2d ∷ u) k.4.1))))
              | inr x ↦ absurd (cc (x.2))
            ]
        | inr miss ↦
            elim (bind_err (natural_at high (b ∷ text)) (λ n. Ok (g n.0, n.1)) r miss.1) [
              | inl e ↦
                  let k = natural_stops high hf (b ∷ text) r e in
                  (k.0, k.1, g k.2, k.3, (k.2, inl (refl, k.4)))
              | inr x ↦ absurd (cc (x.2))
            ]
      ]

  signed_core : low < 2 ^ 64 → high < 2 ^ 64 → Core NotDigit Signed signed_at
  signed_core lf hf = record { takes = signed_takes lf hf; again = signed_again lf hf; stands = signed_stands; moves = signed_moves lf hf; stops = λ text r fine h. signed_stops lf hf text r h }

signed_is : (low high : ℕ) (text : List ℕ) → integer_at low high text ≡ signed_at negated pos low high text
unfolding integer_at
signed_is low high [] = refl
signed_is low high (b ∷ text) = refl

pub integer_core : (low high : ℕ) → low < 2 ^ 64 → high < 2 ^ 64 → Core NotDigit (Ranged low high) (integer_at low high)
integer_core low high lf hf = equal_core NotDigit (Ranged low high) (signed_at negated pos low high) (integer_at low high) (signed_is low high) (signed_core negated pos low high lf hf)

read_eta : {A : Type 0} (read : Read A) → read ≡ (read >>= λ n. Ok (n.0, n.1))
read_eta (Ok x) = refl
read_eta (Err r) = refl

unsigned_is : (high : ℕ) (text : List ℕ) → unsigned_at high text ≡ signed_at (λ n. n) (λ n. n) 0 high text
unfolding unsigned_at
unsigned_is high [] = refl
unsigned_is high (b ∷ text) = rw (← read_eta (natural_at 0 text), ← read_eta (natural_at high (b ∷ text))) refl

unsigned_to : (high n : ℕ) (s : List ℕ) → Signed (λ (k : ℕ). k) (λ k. k) 0 high n s → (n ≤ high) × Integer (pos n) s
unsigned_to high n s (k, inl l) = (omega (arith, l.0, l.1.0), (k, inl (ap pos l.0, l.1.1)))
unsigned_to high n s (k, inr l) =
    let none : k ≡ 0 = omega (arith, l.1.0) in
    let zeroed : n ≡ 0 = l.0 ∙ none in
    (omega (arith, zeroed), (0, inr (ap pos zeroed, l.1.1 ∙ ap (λ (j : ℕ). 0x2d ∷ decimal j) none)))

unsigned_from : (high n : ℕ) (s : List ℕ) → (n ≤ high) × Integer (pos n) s → Signed (λ (k : ℕ). k) (λ k. k) 0 high n s
unsigned_from high n s (le, (k, inl l)) =
    let same : n ≡ k = cc (l.0) in
    (k, inl (same, (omega (arith, le, same), l.1)))
unsigned_from high n s (le, (zero, inr l)) =
    let same : n ≡ 0 = cc (l.0) in
    (0, inr (same, (omega arith, l.1)))
unsigned_from high n s (le, (suc k, inr l)) = absurd (cc (l.0))

pub unsigned_core : (high : ℕ) → high < 2 ^ 64 → Core NotDigit (λ n s. (n ≤ high) × Integer (pos n) s) (unsigned_at high)
unsigned_core high hf = equal_core NotDigit (λ n s. (n ≤ high) × Integer (pos n) s) (signed_at (λ n. n) (λ n. n) 0 high) (unsigned_at high) (unsigned_is high)
    (same_core NotDigit NotDigit (Signed (λ (k : ℕ). k) (λ k. k) 0 high) (λ n s. (n ≤ high) × Integer (pos n) s) (signed_at (λ n. n) (λ n. n) 0 high)
    (signed_core (λ n. n) (λ n. n) 0 high (omega arith) hf) (unsigned_to high) (unsigned_from high) (λ v r h. h))

-- ---- hex digits

abbrev pub Digit : ℕ → ℕ → ℕ → List ℕ → Type 0
Digit low high d s = (c : ℕ) × (hex_digit_value c ≡ Some d) × (low ≤ d) × (d ≤ high) × (s ≡ c ∷ [])

digit_takes_or : (low high : ℕ) (all text : List ℕ) (o : Option ℕ) (v : ℕ) (r : List ℕ) → digit_or low high all text o ≡ Ok (v, r) → (o ≡ Some v) × (low ≤ v) × (v ≤ high) × (text ≡ r)
digit_takes_or low high all text None v r h = absurd cc
digit_takes_or low high all text (Some d) v r h =
    let k = kept_ok (nat_le low d && nat_le d high) (d, text) (v, r) all h in
    let same : d ≡ v = ap (λ (p : ℕ × List ℕ). p.0) k.1 in
    let rest : text ≡ r = ap (λ (p : ℕ × List ℕ). p.1) k.1 in
    let parts = and_parts (nat_le low d) (nat_le d high) k.0 in
    (ap (λ (j : ℕ). Some j) same, omega (arith, leb-true low d parts.0, same), omega (arith, leb-true d high parts.1, same), rest)

digit_takes : (low high : ℕ) (text : List ℕ) (v : ℕ) (r : List ℕ) → digit_at low high text ≡ Ok (v, r) → (s : List ℕ) × (text ≡ s ++ r) × Digit low high v s
unfolding digit_at
digit_takes low high [] v r h = absurd cc
digit_takes low high (b ∷ text) v r h =
    let t = digit_takes_or low high (b ∷ text) text (hex_digit_value b) v r h in
    (b ∷ [], ap (λ (u : List ℕ). b ∷ u) t.3, (b, t.0, t.1, t.2, refl))

digit_again : (low high v : ℕ) (s r : List ℕ) → Digit low high v s → digit_at low high (s ++ r) ≡ Ok (v, r)
unfolding digit_at
digit_again low high v s r l =
    let test : (nat_le low v && nat_le v high) ≡ true = and_from (nat_le low v) (nat_le v high) (le-leb low v l.2) (le-leb v high l.3) in
    rw (l.4, l.1, test) refl

digit_stands_or : (low high : ℕ) (all text : List ℕ) (o : Option ℕ) (r : List ℕ) → digit_or low high all text o ≡ Err r → all ≡ r
digit_stands_or low high all text None r h = cc
digit_stands_or low high all text (Some d) r h = (kept_err (nat_le low d && nat_le d high) (d, text) all r h).1

digit_stands : (low high : ℕ) (text r : List ℕ) → digit_at low high text ≡ Err r → (p : List ℕ) × (text ≡ p ++ r)
unfolding digit_at
digit_stands low high [] r h = ([], cc)
digit_stands low high (b ∷ text) r h = ([], digit_stands_or low high (b ∷ text) text (hex_digit_value b) r h)

digit_or_moved : (low high : ℕ) (all text all2 text2 z w : List ℕ) (o : Option ℕ) → ((v : ℕ) → Moved z w (Ok (v, text)) (Ok (v, text2))) → Moved {A = ℕ} z w (Err all) (Err all2)
    → Moved z w (digit_or low high all text o) (digit_or low high all2 text2 o)
digit_or_moved low high all text all2 text2 z w None m n = n
digit_or_moved low high all text all2 text2 z w (Some d) m n = if_moved (nat_le low d && nat_le d high) z w (Ok (d, text)) (Err all) (Ok (d, text2)) (Err all2) (m d) n

digit_moves : (low high : ℕ) (p : List ℕ) (c : ℕ) (x y : List ℕ) → Moved (c ∷ x) (c ∷ y) (digit_at low high (p ++ c ∷ x)) (digit_at low high (p ++ c ∷ y))
unfolding digit_at
digit_moves low high [] c x y = digit_or_moved low high (c ∷ x) x (c ∷ y) y (c ∷ x) (c ∷ y) (hex_digit_value c) (λ v. moved_past v c x (c ∷ y) (Ok (v, y))) (moved_err [] (c ∷ x) (c ∷ y))
digit_moves low high (d ∷ p) c x y = digit_or_moved low high (d ∷ (p ++ c ∷ x)) (p ++ c ∷ x) (d ∷ (p ++ c ∷ y)) (p ++ c ∷ y) (c ∷ x) (c ∷ y) (hex_digit_value d) (λ v. moved_ok v p (c ∷ x) (c ∷ y)) (moved_err (d ∷ p) (c ∷ x) (c ∷ y))

digit_stops : (low high : ℕ) → low ≤ high → low ≤ 15 → (text r : List ℕ) → digit_at low high text ≡ Err r → Completed (Digit low high) text r
unfolding digit_at
digit_stops low high le small [] r h = ([], slice_index lower_digits low ∷ [], low, cc, (slice_index lower_digits low, IsDigits-lower_digits low (omega arith), omega arith, le, refl))
digit_stops low high le small (b ∷ text) r h =
    ([], slice_index lower_digits low ∷ [], low, digit_stands_or low high (b ∷ text) text (hex_digit_value b) r h, (slice_index lower_digits low, IsDigits-lower_digits low (omega arith), omega arith, le, refl))

pub digit_core : (low high : ℕ) → low ≤ high → low ≤ 15 → Core Any (Digit low high) (digit_at low high)
digit_core low high le small = record { takes = digit_takes low high; again = λ v s r l h. digit_again low high v s r l; stands = digit_stands low high; moves = digit_moves low high; stops = λ text r fine h. digit_stops low high le small text r h }
