-- Strings and hex digits as readers of their languages.
use Rattle.std.proofs.Common.{◌≡◌, ℕ, zero, suc, ◌+◌, ◌-◌, ◌*◌, ◌<◌, ◌≤◌, ◌==◌, ◌&&◌, ◌⊎◌, inl, inr, Bool, true, false, List, [], ◌∷◌, ◌++◌, length, get_or, take, drop, Option, Some, None, Ok, Err, append_assoc, append-nil, refl, sym, ap, ◌∙◌, subst, arith}
use Rattle.std.specs.Prelude.{if◌then◌else◌, nat_le, nat_lt, not}
use Rattle.std.specs.List.{concat}
use Rattle.std.specs.Str.{is_utf8}
use Rattle.std.specs.Char.{encode_utf8, IsScalar}
use Rattle.std.specs.Char.Utf16.{is_high_surrogate, is_low_surrogate, surrogate_pair_char}
use Rattle.std.proofs.lemmas.Bool.{eqb-true, eqb-false, eq-eqb, ne_eqb, leb-true, le-leb, lt-leb, ltb-false, ltb-true, le-ltb, lt-ltb, and_parts, and_from, and_left, and_right, cases_eq, cases_lt, both_ways, false≢true}
use Rattle.std.proofs.lemmas.List.{length-append, take_at, drop_at, get_or-append-add}
use Rattle.std.proofs.lemmas.Str.{NoCharPasses-byte, encode_ascii, IsUtf8-nil, IsUtf8-append, IsUtf8-take, IsUtf8-drop, IsUtf8-encode, IsCharBoundary-before_ascii, IsCharBoundary-after_ascii, is_utf8-from_IsUtf8}
use Rattle.std.specs.Str.{NoCharPasses, IsUtf8}
use Rattle.hex.specs.Hex.{hex_digit_value}
use Rattle.mm_bson.specs.Spelling.{HasNoZero}
use Rattle.mm_notation.specs.Grammar.{◌·◌, Word, Quoted, Each, HexPair, HexDigits, HexDigit, Digits16, escaped, Escape, Piece, String}
use Rattle.mm_notation.specs.Reading.{Read, ◌>>=◌, byte_at, word_at, digit_at, pair_at, hex_item, hex_at, pairs_at, quoted_at, many_at, unit_at, character_at, letter_or, escape_at, some_of, piece_item, string_at, behind_item, many_for}
use Rattle.mm_notation.proofs.Core.{Core, Any, Then, pair_of, bind_ok, bind_err, then_core, pure_core, same_core, map_core, folded, Items, Many, many_core, Moved, moved_ok, moved_err, moved_past, if_moved, ends_of, spent, map_moves, Half, half_of, core_of, then_half, many_half, Fine, fine_rest, Completed}
use Rattle.mm_notation.proofs.Leaves.{chosen, kept_ok, kept_err, byte_core, word_core, Digit, digit_core}

abbrev pub Free : List ℕ → Type 0
Free r = Unit {0}

-- ---- languages one after the other

pub dot_to : (P Q R : List ℕ → Type 0) (s : List ℕ) → ((P · Q) · R) s → (P · (Q · R)) s
dot_to P Q R s l =
    let in_front = l.3 in
    (in_front.0, in_front.1 ++ l.1, l.2 ∙ ap (λ (u : List ℕ). u ++ l.1) in_front.2 ∙ append_assoc in_front.0 in_front.1 l.1, in_front.3, (in_front.1, l.1, refl, in_front.4, l.4))

pub dot_from : (P Q R : List ℕ → Type 0) (s : List ℕ) → (P · (Q · R)) s → ((P · Q) · R) s
dot_from P Q R s l =
    let behind = l.4 in
    (l.0 ++ behind.0, behind.1, l.2 ∙ ap (λ (u : List ℕ). l.0 ++ u) behind.2 ∙ sym (append_assoc l.0 behind.0 behind.1), (l.0, behind.0, refl, l.3, behind.3), behind.4)

-- items up to an end are the items and then the end
abbrev pub UpTo : {X : Type 0} → (List ℕ → Type 0) → (X → List ℕ → Type 0) → Option X → List ℕ → Type 0
UpTo E P None = E
UpTo E P (Some x) = P x

pub each_to : {X : Type 0} (E : List ℕ → Type 0) (P : X → List ℕ → Type 0) (xs : List X) (s : List ℕ) → Items (UpTo E P) xs s → (Each P xs · E) s
each_to E P [] s l = ([], s, refl, refl, l)
each_to E P (x ∷ xs) s l =
    let more = each_to E P xs l.1 l.4 in
    dot_from (P x) (Each P xs) E s (l.0, l.1, l.2, l.3, more)

pub each_from : {X : Type 0} (E : List ℕ → Type 0) (P : X → List ℕ → Type 0) (xs : List X) (s : List ℕ) → (Each P xs · E) s → Items (UpTo E P) xs s
each_from E P [] s l =
    let same : s ≡ l.1 = l.2 ∙ ap (λ (u : List ℕ). u ++ l.1) l.3 in
    subst E (sym same) l.4
each_from E P (x ∷ xs) s l =
    let parts = dot_to (P x) (Each P xs) E s l in
    (parts.0, parts.1, parts.2, parts.3, each_from E P xs parts.1 parts.4)

-- ---- hex digits

pub hex_small : (c d : ℕ) → hex_digit_value c ≡ Some d → d ≤ 15
hex_small c d h =
    elim (chosen (nat_le 65 c && nat_le c 70) (Some (c - 55)) (if nat_le 97 c && nat_le c 102 then Some (c - 87) else (if nat_le 48 c && nat_le c 57 then Some (c - 48) else None)) (Some d) h) [
      | inl a ↦
          let p = and_parts (nat_le 65 c) (nat_le c 70) a.0 in
          let e : c - 55 ≡ d = cc (a.1) in
          omega (arith, e, leb-true c 70 p.1)
      | inr b ↦
          elim (chosen (nat_le 97 c && nat_le c 102) (Some (c - 87)) (if nat_le 48 c && nat_le c 57 then Some (c - 48) else None) (Some d) b.1) [
            | inl a ↦
                let p = and_parts (nat_le 97 c) (nat_le c 102) a.0 in
                let e : c - 87 ≡ d = cc (a.1) in
                omega (arith, e, leb-true c 102 p.1)
            | inr f ↦
                elim (chosen (nat_le 48 c && nat_le c 57) (Some (c - 48)) None (Some d) f.1) [
                  | inl a ↦
                      let p = and_parts (nat_le 48 c) (nat_le c 57) a.0 in
                      let e : c - 48 ≡ d = cc (a.1) in
                      omega (arith, e, leb-true c 57 p.1)
                  | inr g ↦ absurd (cc (g.1))
                ]
          ]
    ]

abbrev PairParts : ℕ → List ℕ → Type 0
PairParts = Then (Digit 0 15) (λ h w s. (l : ℕ) × (w ≡ h * 16 + l) × Digit 0 15 l s)

pair_to : (b : ℕ) (s : List ℕ) → PairParts b s → HexPair b s
pair_to b s (h, l) =
    let low = l.4 in
    (l.3.0, low.2.0, h, low.0, l.3.1, low.2.1, low.1, l.2 ∙ rw (l.3.4, low.2.4) refl)

pair_from : (b : ℕ) (s : List ℕ) → HexPair b s → PairParts b s
pair_from b s p =
    (p.2, (p.0 ∷ [], p.1 ∷ [], p.7, (p.0, p.4, omega arith, hex_small p.0 p.2 p.4, refl), (p.3, p.6, (p.1, p.5, omega arith, hex_small p.1 p.3 p.5, refl))))

pub pair_core : Core Any HexPair pair_at
unfolding pair_at
pair_core = same_core Any Any PairParts HexPair pair_at
    (then_core Any (Digit 0 15) (digit_at 0 15) Any (λ h w s. (l : ℕ) × (w ≡ h * 16 + l) × Digit 0 15 l s) (λ h text. digit_at 0 15 text >>= λ l. Ok (h * 16 + l.0, l.1))
    (digit_core 0 15 (omega arith) (omega arith)) (λ h. map_core Free (Digit 0 15) (digit_at 0 15) (λ l. h * 16 + l) (digit_core 0 15 (omega arith) (omega arith))) (λ v w b r l h. tt))
    pair_to pair_from (λ v r h. tt)

pairs_to : (n : ℕ) (bytes : List ℕ) (s : List ℕ) → Then HexPair (λ b w s. (bs : List ℕ) × (w ≡ b ∷ bs) × ((length bs ≡ n) × HexDigits bs s)) bytes s → (length bytes ≡ suc n) × HexDigits bytes s
pairs_to n bytes s (b, l) =
    let m = l.4 in
    (ap length m.1 ∙ ap suc m.2.0, rw (m.1) (l.0, l.1, l.2, l.3, m.2.1))

pairs_from : (n : ℕ) (bytes : List ℕ) (s : List ℕ) → (length bytes ≡ suc n) × HexDigits bytes s → Then HexPair (λ b w s. (bs : List ℕ) × (w ≡ b ∷ bs) × ((length bs ≡ n) × HexDigits bs s)) bytes s
pairs_from n [] s l = absurd (omega (arith, l.0))
pairs_from n (b ∷ bs) s l = (b, (l.1.0, l.1.1, l.1.2, l.1.3, (bs, refl, (omega (arith, l.0), l.1.4))))

none_from : (v s : List ℕ) → (length v ≡ 0) × HexDigits v s → (v ≡ []) × (s ≡ [])
none_from [] s l = (refl, l.1)
none_from (b ∷ bs) s l = absurd (omega (arith, l.0))

pub pairs_core : (n : ℕ) → Core Any (λ bytes s. (length bytes ≡ n) × HexDigits bytes s) (pairs_at n)
unfolding pairs_at
pairs_core zero = same_core Any Any (λ w s. (w ≡ []) × (s ≡ [])) (λ bytes s. (length bytes ≡ 0) × HexDigits bytes s) (pairs_at 0) (pure_core [])
    (λ v s l. rw (l.0) (refl, l.1)) none_from (λ v r h. tt)
pairs_core (suc n) = same_core Any Any (Then HexPair (λ b w s. (bs : List ℕ) × (w ≡ b ∷ bs) × ((length bs ≡ n) × HexDigits bs s))) (λ bytes s. (length bytes ≡ suc n) × HexDigits bytes s) (pairs_at (suc n))
    (then_core Any HexPair pair_at Any (λ b w s. (bs : List ℕ) × (w ≡ b ∷ bs) × ((length bs ≡ n) × HexDigits bs s)) (λ b text. pairs_at n text >>= λ bytes. Ok (b ∷ bytes.0, bytes.1))
    pair_core (λ b. map_core Free (λ bytes s. (length bytes ≡ n) × HexDigits bytes s) (pairs_at n) (λ bs. b ∷ bs) (pairs_core n)) (λ v w b r l h. tt))
    (pairs_to n) (pairs_from n) (λ v r h. tt)

quoted_to : (n : ℕ) (bytes s : List ℕ) → Then (λ (v : Unit {0}) s. Word (0x22 ∷ []) s) (λ v. Then (λ (bs : List ℕ) s. (length bs ≡ n) × HexDigits bs s) (λ bs w s. (v : Unit {0}) × (w ≡ bs) × Word (0x22 ∷ []) s)) bytes s
    → (length bytes ≡ n) × Quoted (HexDigits bytes) s
quoted_to n bytes s (v, l) =
    let bs : List ℕ = l.4.0 in
    let m = l.4.1 in
    let same : bytes ≡ bs = m.4.1 in
    rw (same) (m.3.0, (l.0, l.1, l.2, l.3, (m.0, m.1, m.2, m.3.1, m.4.2)))

quoted_from : (n : ℕ) (bytes s : List ℕ) → (length bytes ≡ n) × Quoted (HexDigits bytes) s
    → Then (λ (v : Unit {0}) s. Word (0x22 ∷ []) s) (λ v. Then (λ (bs : List ℕ) s. (length bs ≡ n) × HexDigits bs s) (λ bs w s. (v : Unit {0}) × (w ≡ bs) × Word (0x22 ∷ []) s)) bytes s
quoted_from n bytes s l =
    let m = l.1.4 in
    (tt, (l.1.0, l.1.1, l.1.2, l.1.3, (bytes, (m.0, m.1, m.2, (l.0, m.3), (tt, refl, m.4)))))

pub quoted_core : (n : ℕ) → Core Any (λ bytes s. (length bytes ≡ n) × Quoted (HexDigits bytes) s) (quoted_at n)
quoted_core n = same_core Any Any (Then (λ (v : Unit {0}) s. Word (0x22 ∷ []) s) (λ v. Then (λ (bs : List ℕ) s. (length bs ≡ n) × HexDigits bs s) (λ bs w s. (v : Unit {0}) × (w ≡ bs) × Word (0x22 ∷ []) s)))
    (λ bytes s. (length bytes ≡ n) × Quoted (HexDigits bytes) s) (quoted_at n)
    (then_core Any (λ (v : Unit {0}) s. Word (0x22 ∷ []) s) (byte_at 0x22) Any (λ v. Then (λ (bs : List ℕ) s. (length bs ≡ n) × HexDigits bs s) (λ bs w s. (v : Unit {0}) × (w ≡ bs) × Word (0x22 ∷ []) s))
    (λ v text. pairs_at n text >>= λ bytes. byte_at 0x22 bytes.1 >>= λ r. Ok (bytes.0, r.1)) (byte_core 0x22)
    (λ v. then_core Any (λ (bs : List ℕ) s. (length bs ≡ n) × HexDigits bs s) (pairs_at n) Any (λ bs w s. (v : Unit {0}) × (w ≡ bs) × Word (0x22 ∷ []) s)
    (λ bs text. byte_at 0x22 text >>= λ r. Ok (bs, r.1)) (pairs_core n) (λ bs. map_core Free (λ (v : Unit {0}) s. Word (0x22 ∷ []) s) (byte_at 0x22) (λ v. bs) (byte_core 0x22)) (λ v w b r l h. tt))
    (λ v w b r l h. tt))
    (quoted_to n) (quoted_from n) (λ v r h. tt)

-- ---- hex digits between quotes, up to the last one

abbrev HexParts : Option ℕ → List ℕ → Type 0
HexParts = UpTo (Word (0x22 ∷ [])) HexPair

hex_not_quote : (d : ℕ) → hex_digit_value 0x22 ≡ Some d → ⊥
hex_not_quote d h = absurd cc

hex_takes : (text : List ℕ) (v : Option ℕ) (r : List ℕ) → hex_item text ≡ Ok (v, r) → (s : List ℕ) × (text ≡ s ++ r) × HexParts v s
unfolding hex_item
hex_takes [] v r h = absurd cc
hex_takes (b ∷ text) v r h =
    elim (chosen (b == 0x22) (Ok (None, text)) (pair_at (b ∷ text) >>= λ p. Ok (Some p.0, p.1)) (Ok (v, r)) h) [
      | inl hit ↦
          let e = pair_of None v text r hit.1 in
          let same : b ≡ 0x22 = eqb-true b 0x22 hit.0 in
          (b ∷ [], ap (λ (u : List ℕ). b ∷ u) e.1, subst (λ o. HexParts o (b ∷ [])) e.0 (ap (λ (k : ℕ). k ∷ []) same))
      | inr miss ↦
          let x = bind_ok (pair_at (b ∷ text)) (λ p. Ok (Some p.0, p.1)) (v, r) miss.1 in
          let e = pair_of (Some x.0.0) v x.0.1 r x.2 in
          let t = pair_core.takes (b ∷ text) x.0.0 x.0.1 x.1 in
          (t.0, t.1 ∙ ap (λ (u : List ℕ). t.0 ++ u) e.1, subst (λ o. HexParts o t.0) e.0 t.2)
    ]

hex_again : (v : Option ℕ) (s r : List ℕ) → HexParts v s → hex_item (s ++ r) ≡ Ok (v, r)
unfolding hex_item
hex_again None s r l = rw l refl
hex_again (Some byte) s r l =
    let front : (l.0 == 0x22) ≡ false = ne_eqb l.0 0x22 (λ e. hex_not_quote l.2 (ap hex_digit_value (sym e) ∙ l.4)) in
    let read : pair_at (l.0 ∷ l.1 ∷ r) ≡ Ok (byte, r) = pair_core.again byte (l.0 ∷ l.1 ∷ []) r (l.0, l.1, l.2, l.3, l.4, l.5, l.6, refl) tt in
    rw (l.7, front, read) refl

hex_stands : (text r : List ℕ) → hex_item text ≡ Err r → (p : List ℕ) × (text ≡ p ++ r)
unfolding hex_item
hex_stands [] r h = ([], cc)
hex_stands (b ∷ text) r h =
    elim (chosen (b == 0x22) (Ok (None, text)) (pair_at (b ∷ text) >>= λ p. Ok (Some p.0, p.1)) (Err r) h) [
      | inl hit ↦ absurd (cc (hit.1))
      | inr miss ↦
          elim (bind_err (pair_at (b ∷ text)) (λ p. Ok (Some p.0, p.1)) r miss.1) [
            | inl e ↦ pair_core.stands (b ∷ text) r e
            | inr x ↦ absurd (cc (x.2))
          ]
    ]

hex_moves : (p : List ℕ) (c : ℕ) (x y : List ℕ) → Moved (c ∷ x) (c ∷ y) (hex_item (p ++ c ∷ x)) (hex_item (p ++ c ∷ y))
unfolding hex_item
hex_moves [] c x y =
    if_moved (c == 0x22) (c ∷ x) (c ∷ y) (Ok (None, x)) (pair_at (c ∷ x) >>= λ p. Ok (Some p.0, p.1)) (Ok (None, y)) (pair_at (c ∷ y) >>= λ p. Ok (Some p.0, p.1))
    (moved_past None c x (c ∷ y) (Ok (None, y))) (map_moves (λ b. Some b) (c ∷ x) (c ∷ y) (pair_at (c ∷ x)) (pair_at (c ∷ y)) (pair_core.moves [] c x y))
hex_moves (d ∷ p) c x y =
    if_moved (d == 0x22) (c ∷ x) (c ∷ y) (Ok (None, p ++ c ∷ x)) (pair_at (d ∷ (p ++ c ∷ x)) >>= λ p. Ok (Some p.0, p.1)) (Ok (None, p ++ c ∷ y)) (pair_at (d ∷ (p ++ c ∷ y)) >>= λ p. Ok (Some p.0, p.1))
    (moved_ok None p (c ∷ x) (c ∷ y)) (map_moves (λ b. Some b) (c ∷ x) (c ∷ y) (pair_at (d ∷ (p ++ c ∷ x))) (pair_at (d ∷ (p ++ c ∷ y))) (pair_core.moves (d ∷ p) c x y))

hex_stops : (text r : List ℕ) → Fine text → hex_item text ≡ Err r → Completed HexParts text r
unfolding hex_item
hex_stops [] r fine h = ([], 0x22 ∷ [], None, cc, refl)
hex_stops (b ∷ text) r fine h =
    elim (chosen (b == 0x22) (Ok (None, text)) (pair_at (b ∷ text) >>= λ p. Ok (Some p.0, p.1)) (Err r) h) [
      | inl hit ↦ absurd (cc (hit.1))
      | inr miss ↦
          elim (bind_err (pair_at (b ∷ text)) (λ p. Ok (Some p.0, p.1)) r miss.1) [
            | inl e ↦
                let t = pair_core.stops (b ∷ text) r fine e in
                (t.0, t.1, Some t.2, t.3, t.4)
            | inr x ↦ absurd (cc (x.2))
          ]
    ]

hex_item_core : Core Any HexParts hex_item
hex_item_core = record { takes = hex_takes; again = λ v s r l h. hex_again v s r l; stands = hex_stands; moves = hex_moves; stops = hex_stops }

hex_some : (o : Option ℕ) (s : List ℕ) → HexParts o s → 0 < length s
hex_some None s l = omega (arith, ap length l)
hex_some (Some b) s l = omega (arith, ap length l.7)

folded_same : (xs : List ℕ) → folded [] (λ b bytes. b ∷ bytes) xs ≡ xs
folded_same [] = refl
folded_same (x ∷ xs) = ap (λ (u : List ℕ). x ∷ u) (folded_same xs)

hex_to : (bytes s : List ℕ) → Then (λ (v : Unit {0}) s. Word (0x22 ∷ []) s) (λ v. Many [] (λ b bs. b ∷ bs) HexParts) bytes s → Quoted (HexDigits bytes) s
hex_to bytes s (v, l) =
    let m = l.4 in
    let same : bytes ≡ m.0 = m.1 ∙ folded_same m.0 in
    (l.0, l.1, l.2, l.3, subst (λ (bs : List ℕ). (HexDigits bs · Word (0x22 ∷ [])) l.1) (sym same) (each_to (Word (0x22 ∷ [])) HexPair m.0 l.1 m.2))

hex_from : (bytes s : List ℕ) → Quoted (HexDigits bytes) s → Then (λ (v : Unit {0}) s. Word (0x22 ∷ []) s) (λ v. Many [] (λ b bs. b ∷ bs) HexParts) bytes s
hex_from bytes s l = (tt, (l.0, l.1, l.2, l.3, (bytes, sym (folded_same bytes), each_from (Word (0x22 ∷ [])) HexPair bytes l.1 l.4)))

pub hex_core : Core Any (λ bytes s. Quoted (HexDigits bytes) s) hex_at
hex_core = same_core Any Any (Then (λ (v : Unit {0}) s. Word (0x22 ∷ []) s) (λ v. Many [] (λ b bs. b ∷ bs) HexParts)) (λ bytes s. Quoted (HexDigits bytes) s) hex_at
    (then_core Any (λ (v : Unit {0}) s. Word (0x22 ∷ []) s) (byte_at 0x22) Any (λ v. Many [] (λ b bs. b ∷ bs) HexParts) (λ v. many_at [] (λ b bs. b ∷ bs) hex_item) (byte_core 0x22)
    (λ v. many_core [] (λ b bs. b ∷ bs) Any HexParts hex_item hex_item_core hex_some (λ r. tt) (λ x o b r l. tt) (0x22 ∷ []) refl) (λ v w b r l h. tt))
    hex_to hex_from (λ v r h. tt)

-- ---- units of UTF-16

abbrev Last : Bool → ℕ → ℕ → ℕ → ℕ → List ℕ → Type 0
Last named a b c u s = (d : ℕ) × (u ≡ (a * 16 + b) * 256 + (c * 16 + d)) × Digit (if named && a + b + c == 0 then 1 else 0) 15 d s

abbrev Units : Bool → Bool → ℕ → List ℕ → Type 0
Units second named = Then (Digit (if second then 13 else 0) (if second then 13 else 15))
    (λ a. Then (Digit (if second then 12 else 0) (if not second && a == 13 then 11 else 15)) (λ b. Then (Digit 0 15) (λ c. Last named a b c)))

first_low : (second : Bool) → ((if second then 13 else 0) ≤ (if second then 13 else 15)) × ((if second then 13 else 0) ≤ 15)
first_low true = (omega arith, omega arith)
first_low false = (omega arith, omega arith)

next_low : (second : Bool) (a : ℕ) → ((if second then 12 else 0) ≤ (if not second && a == 13 then 11 else 15)) × ((if second then 12 else 0) ≤ 15)
next_low true a = (omega arith, omega arith)
next_low false a = (omega arith, omega arith)

last_low : (t : Bool) → (if t then 1 else 0) ≤ 15
last_low true = omega arith
last_low false = omega arith

units_core : (second named : Bool) → Core Any (Units second named) (unit_at second named)
unfolding unit_at
units_core second named =
    then_core Any (Digit (if second then 13 else 0) (if second then 13 else 15)) (digit_at (if second then 13 else 0) (if second then 13 else 15)) Any
    (λ a. Then (Digit (if second then 12 else 0) (if not second && a == 13 then 11 else 15)) (λ b. Then (Digit 0 15) (λ c. Last named a b c)))
    (λ a text. digit_at (if second then 12 else 0) (if not second && a == 13 then 11 else 15) text >>= λ b. digit_at 0 15 b.1 >>= λ c.
    digit_at (if named && a + b.0 + c.0 == 0 then 1 else 0) 15 c.1 >>= λ d. Ok ((a * 16 + b.0) * 256 + (c.0 * 16 + d.0), d.1))
    (digit_core (if second then 13 else 0) (if second then 13 else 15) (first_low second).0 (first_low second).1)
    (λ a. then_core Any (Digit (if second then 12 else 0) (if not second && a == 13 then 11 else 15)) (digit_at (if second then 12 else 0) (if not second && a == 13 then 11 else 15)) Any
    (λ b. Then (Digit 0 15) (λ c. Last named a b c))
    (λ b text. digit_at 0 15 text >>= λ c. digit_at (if named && a + b + c.0 == 0 then 1 else 0) 15 c.1 >>= λ d. Ok ((a * 16 + b) * 256 + (c.0 * 16 + d.0), d.1))
    (digit_core (if second then 12 else 0) (if not second && a == 13 then 11 else 15) (next_low second a).0 (next_low second a).1)
    (λ b. then_core Any (Digit 0 15) (digit_at 0 15) Any (λ c. Last named a b c)
    (λ c text. digit_at (if named && a + b + c == 0 then 1 else 0) 15 text >>= λ d. Ok ((a * 16 + b) * 256 + (c * 16 + d.0), d.1))
    (digit_core 0 15 (omega arith) (omega arith))
    (λ c. map_core Free (Digit (if named && a + b + c == 0 then 1 else 0) 15) (digit_at (if named && a + b + c == 0 then 1 else 0) 15) (λ d. (a * 16 + b) * 256 + (c * 16 + d))
    (digit_core (if named && a + b + c == 0 then 1 else 0) 15 (last_low (named && a + b + c == 0)) (last_low (named && a + b + c == 0))))
    (λ v w x r l h. tt))
    (λ v w x r l h. tt))
    (λ v w x r l h. tt)

is_low : (u : ℕ) → 0xDC00 ≤ u → u < 0xE000 → is_low_surrogate u ≡ true
is_low u lo hi = and_from (nat_le 0xDC00 u) (nat_lt u 0xE000) (le-leb 0xDC00 u lo) (lt-ltb u 0xE000 hi)

not_low : (u : ℕ) → (u < 0xDC00) ⊎ (0xE000 ≤ u) → is_low_surrogate u ≡ false
not_low u (inl lt) = and_left (nat_le 0xDC00 u) (nat_lt u 0xE000) (lt-leb 0xDC00 u lt)
not_low u (inr le) = and_right (nat_le 0xDC00 u) (nat_lt u 0xE000) (le-ltb u 0xE000 le)

-- which units are read
abbrev pub Fits16 : Bool → Bool → ℕ → Type 0
Fits16 second named u = (is_low_surrogate u ≡ second) × (named ≡ true → 0 < u)

above : (named : Bool) (a b c d : ℕ) → (if named && a + b + c == 0 then 1 else 0) ≤ d → named ≡ true → 0 < (a * 16 + b) * 256 + (c * 16 + d)
above named a b c d le on =
    elim (cases_eq (a + b + c) 0) [
      | inl none ↦
          let test : (named && a + b + c == 0) ≡ true = and_from named (a + b + c == 0) on (eq-eqb (a + b + c) 0 none) in
          let one : 1 ≤ d = rw test at le in
          omega arith
      | inr some ↦
          let positive : 0 < a + b + c = grind (arith, some) in
          omega arith
    ]

fits_to : (second named : Bool) (a b c d : ℕ) → (if second then 13 else 0) ≤ a → a ≤ (if second then 13 else 15) → (if second then 12 else 0) ≤ b → b ≤ (if not second && a == 13 then 11 else 15)
    → c ≤ 15 → d ≤ 15 → (if named && a + b + c == 0 then 1 else 0) ≤ d → Fits16 second named ((a * 16 + b) * 256 + (c * 16 + d))
fits_to true named a b c d al ah bl bh ch dh dl = (is_low ((a * 16 + b) * 256 + (c * 16 + d)) (omega arith) (omega arith), above named a b c d dl)
fits_to false named a b c d al ah bl bh ch dh dl = (
  elim (cases_eq a 13) [
    | inl thirteen ↦
        let test : (a == 13) ≡ true = eq-eqb a 13 thirteen in
        let most : b ≤ 11 = rw test at bh in
        not_low ((a * 16 + b) * 256 + (c * 16 + d)) (inl (omega arith))
    | inr other ↦
        let test : (a == 13) ≡ false = ne_eqb a 13 other in
        let most : b ≤ 15 = rw test at bh in
        elim (cases_lt a 13) [
          | inl less ↦ not_low ((a * 16 + b) * 256 + (c * 16 + d)) (inl (omega arith))
          | inr more ↦
              let big : 14 ≤ a = grind (arith, other) in
              not_low ((a * 16 + b) * 256 + (c * 16 + d)) (inr (omega arith))
        ]
  ],
  above named a b c d dl,
)

hexd : (low high d : ℕ) (s : List ℕ) → Digit low high d s → HexDigit d s
hexd low high d s h = (h.0, h.1, h.4)

digit_from : (low high d : ℕ) (s : List ℕ) → low ≤ d → d ≤ high → HexDigit d s → Digit low high d s
digit_from low high d s lo hi h = (h.0, h.1, lo, hi, h.2)

abbrev pub UnitOf : Bool → Bool → ℕ → List ℕ → Type 0
UnitOf second named u s = Digits16 u s × Fits16 second named u

units_to : (second named : Bool) (u : ℕ) (s : List ℕ) → Units second named u s → UnitOf second named u s
units_to second named u s (a, p) =
    let b : ℕ = p.4.0 in
    let q = p.4.1 in
    let c : ℕ = q.4.0 in
    let r = q.4.1 in
    let d : ℕ = r.4.0 in
    let last = r.4.2 in
    let first = p.3 in
    let next = q.3 in
    let third = r.3 in
    let fits : Fits16 second named ((a * 16 + b) * 256 + (c * 16 + d)) = fits_to second named a b c d first.2 first.3 next.2 next.3 third.3 last.3 last.2 in (
      (a, b, c, d, r.4.1, (p.0, p.1, p.2, (first.0, first.1, first.4), (q.0, q.1, q.2, (next.0, next.1, next.4), (r.0, r.1, r.2, (third.0, third.1, third.4), (last.0, last.1, last.4))))),
      subst (Fits16 second named) (sym (r.4.1)) fits,
    )

-- the ranges of the digits of a unit
abbrev Ranges : Bool → Bool → ℕ → ℕ → ℕ → ℕ → Type 0
Ranges second named a b c d = ((if second then 13 else 0) ≤ a) × (a ≤ (if second then 13 else 15)) × ((if second then 12 else 0) ≤ b) × (b ≤ (if not second && a == 13 then 11 else 15))
    × ((if named && a + b + c == 0 then 1 else 0) ≤ d)

last_from : (named : Bool) (a b c d : ℕ) → (named ≡ true → 0 < (a * 16 + b) * 256 + (c * 16 + d)) → (if named && a + b + c == 0 then 1 else 0) ≤ d
last_from false a b c d h = omega arith
last_from true a b c d h =
    elim (cases_eq (a + b + c) 0) [
      | inl none ↦
          let test : (a + b + c == 0) ≡ true = eq-eqb (a + b + c) 0 none in
          let some : 0 < (a * 16 + b) * 256 + (c * 16 + d) = h refl in
          let one : 1 ≤ d = omega arith in
          rw test one
      | inr other ↦
          let test : (a + b + c == 0) ≡ false = ne_eqb (a + b + c) 0 other in
          let none : 0 ≤ d = omega arith in
          rw test none
    ]

second_from : (a b c d : ℕ) → a ≤ 15 → b ≤ 15 → c ≤ 15 → d ≤ 15 → is_low_surrogate ((a * 16 + b) * 256 + (c * 16 + d)) ≡ false → b ≤ (if a == 13 then 11 else 15)
second_from a b c d ah bh ch dh f =
    elim (cases_eq a 13) [
      | inl thirteen ↦
          let test : (a == 13) ≡ true = eq-eqb a 13 thirteen in
          elim (cases_lt b 12) [
            | inl less ↦
                let most : b ≤ 11 = omega arith in
                rw test most
            | inr more ↦ absurd (both_ways (is_low_surrogate ((a * 16 + b) * 256 + (c * 16 + d))) f (is_low ((a * 16 + b) * 256 + (c * 16 + d)) (omega arith) (omega arith)))
          ]
      | inr other ↦
          let test : (a == 13) ≡ false = ne_eqb a 13 other in
          rw test bh
    ]

ranges_from : (second named : Bool) (a b c d : ℕ) → a ≤ 15 → b ≤ 15 → c ≤ 15 → d ≤ 15 → Fits16 second named ((a * 16 + b) * 256 + (c * 16 + d)) → Ranges second named a b c d
ranges_from true named a b c d ah bh ch dh f =
    let u : ℕ = (a * 16 + b) * 256 + (c * 16 + d) in
    let p = and_parts (nat_le 0xDC00 ((a * 16 + b) * 256 + (c * 16 + d))) (nat_lt ((a * 16 + b) * 256 + (c * 16 + d)) 0xE000) f.0 in
    let lo : 0xDC00 ≤ (a * 16 + b) * 256 + (c * 16 + d) = leb-true 0xDC00 ((a * 16 + b) * 256 + (c * 16 + d)) p.0 in
    let hi : (a * 16 + b) * 256 + (c * 16 + d) < 0xE000 = ltb-true ((a * 16 + b) * 256 + (c * 16 + d)) 0xE000 p.1 in
    (omega arith, omega arith, omega arith, bh, last_from named a b c d f.1)
ranges_from false named a b c d ah bh ch dh f =
    (omega arith, ah, omega arith, second_from a b c d ah bh ch dh f.0, last_from named a b c d f.1)

units_from : (second named : Bool) (u : ℕ) (s : List ℕ) → UnitOf second named u s → Units second named u s
units_from second named u s l =
    let w = l.0 in
    let a : ℕ = w.0 in
    let b : ℕ = w.1 in
    let c : ℕ = w.2 in
    let d : ℕ = w.3 in
    let p = w.5 in
    let q = p.4 in
    let r = q.4 in
    let ha = p.3 in
    let hb = q.3 in
    let hc = r.3 in
    let hd = r.4 in
    let am : a ≤ 15 = hex_small ha.0 a ha.1 in
    let bm : b ≤ 15 = hex_small hb.0 b hb.1 in
    let cm : c ≤ 15 = hex_small hc.0 c hc.1 in
    let dm : d ≤ 15 = hex_small hd.0 d hd.1 in
    let g = ranges_from second named a b c d am bm cm dm (subst (Fits16 second named) w.4 l.1) in
    (a, (p.0, p.1, p.2, (ha.0, ha.1, g.0, g.1, ha.2), (b, (q.0, q.1, q.2, (hb.0, hb.1, g.2, g.3, hb.2), (c, (r.0, r.1, r.2, (hc.0, hc.1, omega arith, cm, hc.2), (d, w.4, (hd.0, hd.1, g.4, dm, hd.2))))))))

unit_core : (second named : Bool) → Core Any (UnitOf second named) (unit_at second named)
unit_core second named = same_core Any Any (Units second named) (UnitOf second named) (unit_at second named) (units_core second named) (units_to second named) (units_from second named) (λ v r h. tt)

-- ---- characters

-- the rest of a character whose first unit is u
abbrev CharParts : ℕ → List ℕ → List ℕ → Type 0
CharParts u bytes s =
    ((is_high_surrogate u ≡ false) × (bytes ≡ encode_utf8 u) × (s ≡ []))
    ⊎ ((is_high_surrogate u ≡ true) × ((low : ℕ) × (bytes ≡ encode_utf8 (surrogate_pair_char u low)) × (is_low_surrogate low ≡ true) × (Word (0x5c ∷ 0x75 ∷ []) · Digits16 low) s))

abbrev second_at : ℕ → List ℕ → Read (List ℕ)
second_at u text = word_at (0x5c ∷ 0x75 ∷ []) text >>= λ w. unit_at true false w.1 >>= λ v. Ok (encode_utf8 (surrogate_pair_char u v.0), v.1)

abbrev SecondParts : ℕ → List ℕ → List ℕ → Type 0
SecondParts u = Then (λ (v : Unit {0}) s. Word (0x5c ∷ 0x75 ∷ []) s) (λ v bytes s. (low : ℕ) × (bytes ≡ encode_utf8 (surrogate_pair_char u low)) × UnitOf true false low s)

second_core : (u : ℕ) → Core Any (SecondParts u) (second_at u)
second_core u = then_core Any (λ (v : Unit {0}) s. Word (0x5c ∷ 0x75 ∷ []) s) (word_at (0x5c ∷ 0x75 ∷ [])) Any (λ v bytes s. (low : ℕ) × (bytes ≡ encode_utf8 (surrogate_pair_char u low)) × UnitOf true false low s)
    (λ v text. unit_at true false text >>= λ low. Ok (encode_utf8 (surrogate_pair_char u low.0), low.1)) (word_core (0x5c ∷ 0x75 ∷ []))
    (λ v. map_core Free (UnitOf true false) (unit_at true false) (λ low. encode_utf8 (surrogate_pair_char u low)) (unit_core true false)) (λ v w x r l h. tt)

pair_from_char : (u : ℕ) → is_high_surrogate u ≡ true → (v s : List ℕ) → CharParts u v s → SecondParts u v s
pair_from_char u e v s (inl l) = absurd (both_ways (is_high_surrogate u) l.0 e)
pair_from_char u e v s (inr l) =
    let m = l.1 in
    (tt, (m.3.0, m.3.1, m.3.2, m.3.3, (m.0, m.1, (m.3.4, (m.2, λ off. absurd (false≢true off))))))

plain_from_char : (u : ℕ) → is_high_surrogate u ≡ false → (v s : List ℕ) → CharParts u v s → (v ≡ encode_utf8 u) × (s ≡ [])
plain_from_char u e v s (inl l) = (l.1, l.2)
plain_from_char u e v s (inr l) = absurd (both_ways (is_high_surrogate u) e l.0)

char_core : (u : ℕ) (t : Bool) → is_high_surrogate u ≡ t → Core Any (CharParts u) (λ text. if t then second_at u text else Ok (encode_utf8 u, text))
char_core u true e = same_core Any Any (SecondParts u) (CharParts u) (second_at u) (second_core u)
    (λ v s l. inr (e, (l.1.4.0, l.1.4.1, l.1.4.2.1.0, (l.1.0, l.1.1, l.1.2, l.1.3, l.1.4.2.0)))) (pair_from_char u e) (λ v r h. tt)
char_core u false e = same_core Any Any (λ w s. (w ≡ encode_utf8 u) × (s ≡ [])) (CharParts u) (λ text. Ok (encode_utf8 u, text)) (pure_core (encode_utf8 u))
    (λ v s l. inl (e, l.0, l.1)) (plain_from_char u e) (λ v r h. tt)

character_core : (u : ℕ) → Core Any (CharParts u) (character_at u)
unfolding character_at
character_core u = char_core u (is_high_surrogate u) refl

-- ---- escapes

no_zero_from : (bytes : List ℕ) → ((i : ℕ) → i < length bytes → get_or bytes i 0 ≡ 0 → ⊥) → HasNoZero bytes
no_zero_from [] h = tt
no_zero_from (b ∷ bytes) h = (h 0 (omega arith), no_zero_from bytes (λ i l e. h (suc i) (omega arith) e))

-- a character other than 0 has no byte 0
no_zero_char : (u : ℕ) → 0 < u → HasNoZero (encode_utf8 u)
no_zero_char u some = no_zero_from (encode_utf8 u) (λ i l e.
    let none : NoCharPasses (λ c. c == 0) (encode_utf8 u) = (u ∷ [], append-nil (encode_utf8 u), (ne_eqb u 0 (λ z. omega (arith, z)), tt)) in
    let off : (get_or (encode_utf8 u) i 0 == 0) ≡ false = NoCharPasses-byte (λ c. c == 0) (encode_utf8 u) i none l (omega (arith, e)) in
    both_ways (get_or (encode_utf8 u) i 0 == 0) off (eq-eqb (get_or (encode_utf8 u) i 0) 0 e))

-- the first character is 0 only where a byte is
char_some : (u : ℕ) → HasNoZero (encode_utf8 u) → 0 < u
char_some u h =
    elim (cases_eq u 0) [
      | inl none ↦
          let zeroed : encode_utf8 u ≡ 0 ∷ [] = ap encode_utf8 none ∙ encode_ascii 0 (omega arith) in
          let bad : HasNoZero (0 ∷ []) = subst HasNoZero zeroed h in
          absurd (bad.0 refl)
      | inr some ↦ grind (arith, some)
    ]

if_some : (t : Bool) (x b : ℕ) (rest : Option ℕ) → (if t then Some x else rest) ≡ Some b → (x ≡ b) ⊎ (rest ≡ Some b)
if_some true x b rest h = inl cc
if_some false x b rest h = inr h

letter_some : (c b : ℕ) → escaped c ≡ Some b → (0 < b) × (b < 128)
letter_some c b h =
    elim (if_some (c == 0x22) 0x22 b _ h) [
      | inl e ↦ (omega (arith, e), omega (arith, e))
      | inr h ↦
          elim (if_some (c == 0x5c) 0x5c b _ h) [
            | inl e ↦ (omega (arith, e), omega (arith, e))
            | inr h ↦
                elim (if_some (c == 0x2f) 0x2f b _ h) [
                  | inl e ↦ (omega (arith, e), omega (arith, e))
                  | inr h ↦
                      elim (if_some (c == 0x62) 0x08 b _ h) [
                        | inl e ↦ (omega (arith, e), omega (arith, e))
                        | inr h ↦
                            elim (if_some (c == 0x66) 0x0c b _ h) [
                              | inl e ↦ (omega (arith, e), omega (arith, e))
                              | inr h ↦
                                  elim (if_some (c == 0x6e) 0x0a b _ h) [
                                    | inl e ↦ (omega (arith, e), omega (arith, e))
                                    | inr h ↦
                                        elim (if_some (c == 0x72) 0x0d b _ h) [
                                          | inl e ↦ (omega (arith, e), omega (arith, e))
                                          | inr h ↦
                                              elim (if_some (c == 0x74) 0x09 b _ h) [ inl e ↦ (omega (arith, e), omega (arith, e)) | inr h ↦ absurd (cc (h)) ]
                                        ]
                                  ]
                            ]
                      ]
                ]
          ]
    ]

-- in a name no byte is 0
abbrev pub Clean : Bool → (List ℕ → List ℕ → Type 0) → List ℕ → List ℕ → Type 0
Clean named L bytes s = L bytes s × (named ≡ true → HasNoZero bytes)

abbrev CodeParts : Bool → List ℕ → List ℕ → Type 0
CodeParts named = Then (UnitOf false named) CharParts

abbrev code_at : Bool → List ℕ → Read (List ℕ)
code_at named text = unit_at false named text >>= λ u. character_at u.0 u.1

code_core : (named : Bool) → Core Any (CodeParts named) (code_at named)
code_core named = then_core Any (UnitOf false named) (unit_at false named) Any CharParts character_at (unit_core false named) character_core (λ v w b r l h. tt)

code_to : (named : Bool) (bytes s : List ℕ) → CodeParts named bytes s → Clean named Escape bytes (0x75 ∷ s)
code_to named bytes s (u, (f, r, e, unit, inl l)) =
    let same : f ≡ s = sym (append-nil f) ∙ ap (λ (x : List ℕ). f ++ x) (sym (l.2)) ∙ sym e in
    (inr (inl (u, l.0, unit.1.0, l.1, (0x75 ∷ [], s, refl, refl, subst (Digits16 u) same unit.0))), λ on. subst HasNoZero (sym (l.1)) (no_zero_char u (unit.1.1 on)))
code_to named bytes s (u, (f, r, e, unit, inr l)) =
    let m = l.1 in
    (inr (inr (u, m.0, l.0, m.2, m.1, (0x75 ∷ [], s, refl, refl, (f, r, e, unit.0, m.3)))), λ on. subst HasNoZero (sym (m.1)) (no_zero_char (surrogate_pair_char u m.0) (omega arith)))

escape_takes_or : (named : Bool) (b : ℕ) (text : List ℕ) (o : Option ℕ) (v r : List ℕ) → escaped b ≡ o → letter_or (b ∷ text) text o ≡ Ok (v, r) → (s : List ℕ) × (b ∷ text ≡ s ++ r) × Clean named Escape v s
escape_takes_or named b text None v r e h = absurd cc
escape_takes_or named b text (Some byte) v r e h =
    let p = pair_of (byte ∷ []) v text r h in
    (b ∷ [], ap (λ (u : List ℕ). b ∷ u) p.1, (inl (b, byte, e, sym p.0, refl), λ on. subst HasNoZero p.0 ((λ z. omega (arith, z, (letter_some b byte e).0)), tt)))

escape_takes : (named : Bool) (text v r : List ℕ) → escape_at named text ≡ Ok (v, r) → (s : List ℕ) × (text ≡ s ++ r) × Clean named Escape v s
unfolding escape_at
escape_takes named [] v r h = absurd cc
escape_takes named (b ∷ text) v r h =
    elim (chosen (b == 0x75) (code_at named text) (letter_or (b ∷ text) text (escaped b)) (Ok (v, r)) h) [
      | inl hit ↦
          let t = (code_core named).takes text v r hit.1 in
          let same : b ≡ 0x75 = eqb-true b 0x75 hit.0 in
          (0x75 ∷ t.0, rw same (ap (λ (u : List ℕ). 0x75 ∷ u) t.1), code_to named v t.0 t.2)
      | inr miss ↦ escape_takes_or named b text (escaped b) v r refl miss.1
    ]

escape_again : (named : Bool) (v s r : List ℕ) → Clean named Escape v s → escape_at named (s ++ r) ≡ Ok (v, r)
unfolding escape_at
escape_again named v s r (inl l, clean) =
    let other : (l.0 == 0x75) ≡ false = ne_eqb l.0 0x75 (λ e. absurd (cc (ap escaped (sym e) ∙ l.2))) in
    rw (l.4, other, l.2, l.3) refl
escape_again named v s r (inr (inl l), clean) =
    let parts = l.4 in
    let whole : s ≡ 0x75 ∷ parts.1 = parts.2 ∙ ap (λ (u : List ℕ). u ++ parts.1) parts.3 in
    let code : CodeParts named v parts.1 = (l.0, (parts.1, [], sym (append-nil parts.1), (parts.4, (l.2, λ on. char_some l.0 (subst HasNoZero l.3 (clean on)))), inl (l.1, l.3, refl))) in
    rw whole ((code_core named).again v parts.1 r code tt)
escape_again named v s r (inr (inr l), clean) =
    let parts = l.5 in
    let more = parts.4 in
    let whole : s ≡ 0x75 ∷ parts.1 = parts.2 ∙ ap (λ (u : List ℕ). u ++ parts.1) parts.3 in
    let h = and_parts (nat_le 0xD800 l.0) (nat_lt l.0 0xDC00) l.2 in
    let fits : Fits16 false named l.0 = (not_low l.0 (inl (ltb-true l.0 0xDC00 h.1)), λ on. omega (arith, leb-true 0xD800 l.0 h.0)) in
    let code : CodeParts named v parts.1 = (l.0, (more.0, more.1, more.2, (more.3, fits), inr (l.2, (l.1, l.4, l.3, more.4)))) in
    rw whole ((code_core named).again v parts.1 r code tt)

escape_stands_or : (b : ℕ) (text : List ℕ) (o : Option ℕ) (r : List ℕ) → letter_or (b ∷ text) text o ≡ Err r → b ∷ text ≡ r
escape_stands_or b text None r h = cc
escape_stands_or b text (Some byte) r h = absurd cc

escape_stands : (named : Bool) (text r : List ℕ) → escape_at named text ≡ Err r → (p : List ℕ) × (text ≡ p ++ r)
unfolding escape_at
escape_stands named [] r h = ([], cc)
escape_stands named (b ∷ text) r h =
    elim (chosen (b == 0x75) (code_at named text) (letter_or (b ∷ text) text (escaped b)) (Err r) h) [
      | inl hit ↦
          let t = (code_core named).stands text r hit.1 in
          (b ∷ t.0, ap (λ (u : List ℕ). b ∷ u) t.1)
      | inr miss ↦ ([], escape_stands_or b text (escaped b) r miss.1)
    ]

letter_moved : (all text all2 text2 z w : List ℕ) (o : Option ℕ) → ((v : List ℕ) → Moved z w (Ok (v, text)) (Ok (v, text2))) → Moved {A = List ℕ} z w (Err all) (Err all2) → Moved z w (letter_or all text o) (letter_or all2 text2 o)
letter_moved all text all2 text2 z w None m n = n
letter_moved all text all2 text2 z w (Some b) m n = m (b ∷ [])

escape_moves : (named : Bool) (p : List ℕ) (c : ℕ) (x y : List ℕ) → Moved (c ∷ x) (c ∷ y) (escape_at named (p ++ c ∷ x)) (escape_at named (p ++ c ∷ y))
unfolding escape_at
escape_moves named [] c x y =
    if_moved (c == 0x75) (c ∷ x) (c ∷ y) (code_at named x) (letter_or (c ∷ x) x (escaped c)) (code_at named y) (letter_or (c ∷ y) y (escaped c))
    (spent (code_at named) (ends_of Any (CodeParts named) (code_at named) (code_core named)) c x (c ∷ y) (code_at named y))
    (letter_moved (c ∷ x) x (c ∷ y) y (c ∷ x) (c ∷ y) (escaped c) (λ v. moved_past v c x (c ∷ y) (Ok (v, y))) (moved_err [] (c ∷ x) (c ∷ y)))
escape_moves named (d ∷ p) c x y =
    if_moved (d == 0x75) (c ∷ x) (c ∷ y) (code_at named (p ++ c ∷ x)) (letter_or (d ∷ (p ++ c ∷ x)) (p ++ c ∷ x) (escaped d)) (code_at named (p ++ c ∷ y)) (letter_or (d ∷ (p ++ c ∷ y)) (p ++ c ∷ y) (escaped d))
    ((code_core named).moves p c x y)
    (letter_moved (d ∷ (p ++ c ∷ x)) (p ++ c ∷ x) (d ∷ (p ++ c ∷ y)) (p ++ c ∷ y) (c ∷ x) (c ∷ y) (escaped d) (λ v. moved_ok v p (c ∷ x) (c ∷ y)) (moved_err (d ∷ p) (c ∷ x) (c ∷ y)))

quote_clean : (named : Bool) → Clean named Escape (0x22 ∷ []) (0x22 ∷ [])
quote_clean named = (inl (0x22, 0x22, refl, refl, refl), λ on. ((λ z. omega (arith, z)), tt))

escape_stops : (named : Bool) (text r : List ℕ) → Fine text → escape_at named text ≡ Err r → Completed (Clean named Escape) text r
unfolding escape_at
escape_stops named [] r fine h = ([], 0x22 ∷ [], 0x22 ∷ [], cc, quote_clean named)
escape_stops named (b ∷ text) r fine h =
    elim (chosen (b == 0x75) (code_at named text) (letter_or (b ∷ text) text (escaped b)) (Err r) h) [
      | inl hit ↦
          let t = (code_core named).stops text r (fine_rest (b ∷ []) text (b ∷ text) refl fine) hit.1 in
          let same : b ≡ 0x75 = eqb-true b 0x75 hit.0 in
          (0x75 ∷ t.0, t.1, t.2, ap (λ (k : ℕ). k ∷ text) same ∙ ap (λ (u : List ℕ). 0x75 ∷ u) t.3, code_to named t.2 (t.0 ++ t.1) t.4)
      | inr miss ↦ ([], 0x22 ∷ [], 0x22 ∷ [], escape_stands_or b text (escaped b) r miss.1, quote_clean named)
    ]

escape_core : (named : Bool) → Core Any (Clean named Escape) (escape_at named)
escape_core named = record { takes = escape_takes named; again = λ v s r l h. escape_again named v s r l; stands = escape_stands named; moves = escape_moves named; stops = escape_stops named }

-- ---- pieces

abbrev PieceParts : Bool → Option (List ℕ) → List ℕ → Type 0
PieceParts named = UpTo (Word (0x22 ∷ [])) (Clean named Piece)

abbrev plain_at : ℕ → List ℕ → Read (Option (List ℕ))
plain_at b text = if nat_lt b 0x20 then Err (b ∷ text) else Ok (Some (b ∷ []), text)

abbrev piece_behind : Bool → ℕ → List ℕ → Read (Option (List ℕ))
piece_behind named b text = if b == 0x5c then (escape_at named text >>= some_of) else plain_at b text

piece_takes : (named : Bool) (text : List ℕ) (v : Option (List ℕ)) (r : List ℕ) → piece_item named text ≡ Ok (v, r) → (s : List ℕ) × (text ≡ s ++ r) × PieceParts named v s
unfolding piece_item
piece_takes named [] v r h = absurd cc
piece_takes named (b ∷ text) v r h =
    elim (chosen (b == 0x22) (Ok (None, text)) (piece_behind named b text) (Ok (v, r)) h) [
      | inl hit ↦
          let e = pair_of None v text r hit.1 in
          let same : b ≡ 0x22 = eqb-true b 0x22 hit.0 in
          (b ∷ [], ap (λ (u : List ℕ). b ∷ u) e.1, subst (λ o. PieceParts named o (b ∷ [])) e.0 (ap (λ (k : ℕ). k ∷ []) same))
      | inr miss ↦
          elim (chosen (b == 0x5c) (escape_at named text >>= some_of) (plain_at b text) (Ok (v, r)) miss.1) [
            | inl hit ↦
                let x = bind_ok (escape_at named text) some_of (v, r) hit.1 in
                let e = pair_of (Some x.0.0) v x.0.1 r x.2 in
                let t = (escape_core named).takes text x.0.0 x.0.1 x.1 in
                let same : b ≡ 0x5c = eqb-true b 0x5c hit.0 in
                let parts : PieceParts named (Some x.0.0) (0x5c ∷ t.0) = (inr (0x5c ∷ [], t.0, refl, refl, t.2.0), t.2.1) in
                (0x5c ∷ t.0, rw same (ap (λ (u : List ℕ). 0x5c ∷ u) (t.1 ∙ ap (λ (u : List ℕ). t.0 ++ u) e.1)), subst (λ o. PieceParts named o (0x5c ∷ t.0)) e.0 parts)
            | inr other ↦
                elim (chosen (nat_lt b 0x20) (Err (b ∷ text)) (Ok (Some (b ∷ []), text)) (Ok (v, r)) other.1) [
                  | inl small ↦ absurd (cc (small.1))
                  | inr plain ↦
                      let e = pair_of (Some (b ∷ [])) v text r plain.1 in
                      let big : 0x20 ≤ b = ltb-false b 0x20 plain.0 in
                      let parts : PieceParts named (Some (b ∷ [])) (b ∷ []) = (inl (b, big, eqb-false b 0x22 miss.0, eqb-false b 0x5c other.0, refl, refl), λ on. ((λ z. omega (arith, z, big)), tt)) in
                      (b ∷ [], ap (λ (u : List ℕ). b ∷ u) e.1, subst (λ o. PieceParts named o (b ∷ [])) e.0 parts)
                ]
          ]
    ]

piece_again : (named : Bool) (v : Option (List ℕ)) (s r : List ℕ) → PieceParts named v s → piece_item named (s ++ r) ≡ Ok (v, r)
unfolding piece_item
piece_again named None s r l = rw l refl
piece_again named (Some a) s r (inl l, clean) =
    let one : (l.0 == 0x22) ≡ false = ne_eqb l.0 0x22 l.2 in
    let two : (l.0 == 0x5c) ≡ false = ne_eqb l.0 0x5c l.3 in
    let big : nat_lt l.0 0x20 ≡ false = le-ltb l.0 0x20 l.1 in
    rw (l.5, one, two, big, l.4) refl
piece_again named (Some a) s r (inr l, clean) =
    let whole : s ≡ 0x5c ∷ l.1 = l.2 ∙ ap (λ (u : List ℕ). u ++ l.1) l.3 in
    let read : escape_at named (l.1 ++ r) ≡ Ok (a, r) = escape_again named a l.1 r (l.4, clean) in
    rw (whole, read) refl

piece_stands : (named : Bool) (text r : List ℕ) → piece_item named text ≡ Err r → (p : List ℕ) × (text ≡ p ++ r)
unfolding piece_item
piece_stands named [] r h = ([], cc)
piece_stands named (b ∷ text) r h =
    elim (chosen (b == 0x22) (Ok (None, text)) (piece_behind named b text) (Err r) h) [
      | inl hit ↦ absurd (cc (hit.1))
      | inr miss ↦
          elim (chosen (b == 0x5c) (escape_at named text >>= some_of) (plain_at b text) (Err r) miss.1) [
            | inl hit ↦
                elim (bind_err (escape_at named text) some_of r hit.1) [
                  | inl e ↦
                      let t = (escape_core named).stands text r e in
                      (b ∷ t.0, ap (λ (u : List ℕ). b ∷ u) t.1)
                  | inr x ↦ absurd (cc (x.2))
                ]
            | inr other ↦
                elim (chosen (nat_lt b 0x20) (Err (b ∷ text)) (Ok (Some (b ∷ []), text)) (Err r) other.1) [
                  | inl small ↦
                      let same : b ∷ text ≡ r = cc (small.1) in
                      ([], same)
                  | inr plain ↦ absurd (cc (plain.1))
                ]
          ]
    ]

some_core : (named : Bool) → Core (λ w r. Free r) (λ w s. (v : List ℕ) × (w ≡ Some v) × Clean named Escape v s) (λ text. escape_at named text >>= some_of)
some_core named = map_core Free (Clean named Escape) (escape_at named) (λ v. Some v) (escape_core named)

piece_moves : (named : Bool) (p : List ℕ) (c : ℕ) (x y : List ℕ) → Moved (c ∷ x) (c ∷ y) (piece_item named (p ++ c ∷ x)) (piece_item named (p ++ c ∷ y))
unfolding piece_item
piece_moves named [] c x y =
    if_moved (c == 0x22) (c ∷ x) (c ∷ y) (Ok (None, x)) (piece_behind named c x) (Ok (None, y)) (piece_behind named c y) (moved_past None c x (c ∷ y) (Ok (None, y)))
    (if_moved (c == 0x5c) (c ∷ x) (c ∷ y) (escape_at named x >>= some_of) (plain_at c x) (escape_at named y >>= some_of) (plain_at c y)
    (spent (λ text. escape_at named text >>= some_of) (ends_of (λ w r. Free r) (λ w s. (v : List ℕ) × (w ≡ Some v) × Clean named Escape v s) (λ text. escape_at named text >>= some_of) (some_core named)) c x (c ∷ y) (escape_at named y >>= some_of))
    (if_moved (nat_lt c 0x20) (c ∷ x) (c ∷ y) (Err (c ∷ x)) (Ok (Some (c ∷ []), x)) (Err (c ∷ y)) (Ok (Some (c ∷ []), y)) (moved_err [] (c ∷ x) (c ∷ y)) (moved_past (Some (c ∷ [])) c x (c ∷ y) (Ok (Some (c ∷ []), y)))))
piece_moves named (d ∷ p) c x y =
    if_moved (d == 0x22) (c ∷ x) (c ∷ y) (Ok (None, p ++ c ∷ x)) (piece_behind named d (p ++ c ∷ x)) (Ok (None, p ++ c ∷ y)) (piece_behind named d (p ++ c ∷ y)) (moved_ok None p (c ∷ x) (c ∷ y))
    (if_moved (d == 0x5c) (c ∷ x) (c ∷ y) (escape_at named (p ++ c ∷ x) >>= some_of) (plain_at d (p ++ c ∷ x)) (escape_at named (p ++ c ∷ y) >>= some_of) (plain_at d (p ++ c ∷ y))
    ((some_core named).moves p c x y)
    (if_moved (nat_lt d 0x20) (c ∷ x) (c ∷ y) (Err (d ∷ (p ++ c ∷ x))) (Ok (Some (d ∷ []), p ++ c ∷ x)) (Err (d ∷ (p ++ c ∷ y))) (Ok (Some (d ∷ []), p ++ c ∷ y)) (moved_err (d ∷ p) (c ∷ x) (c ∷ y)) (moved_ok (Some (d ∷ [])) p (c ∷ x) (c ∷ y))))

piece_half : (named : Bool) → Half Any (PieceParts named) (piece_item named)
piece_half named = record { takes = piece_takes named; again = λ v s r l h. piece_again named v s r l; stands = piece_stands named; moves = piece_moves named }

piece_some : (named : Bool) (o : Option (List ℕ)) (s : List ℕ) → PieceParts named o s → 0 < length s
piece_some named None s l = omega (arith, ap length l)
piece_some named (Some a) s (inl l, clean) = omega (arith, ap length l.5)
piece_some named (Some a) s (inr l, clean) = omega (arith, ap length l.2, ap length l.3, length-append l.0 l.1)

-- ---- the bytes of pieces are UTF-8

-- before a byte below 128 a text may be cut, and behind it
split_ascii : (a : List ℕ) (b : ℕ) (r : List ℕ) → b < 128 → IsUtf8 (a ++ b ∷ r) → IsUtf8 a × IsUtf8 r
split_ascii a b r low u =
    let sizes : length (a ++ b ∷ r) ≡ length a + suc (length r) = length-append a (b ∷ r) in
    let here : get_or (a ++ b ∷ r) (length a) 0 ≡ b = ap (λ (i : ℕ). get_or (a ++ b ∷ r) i 0) (let k : length a ≡ length a + 0 = omega arith in k) ∙ get_or-append-add a (b ∷ r) 0 0 in
    let front : IsUtf8 (take (length a) (a ++ b ∷ r)) = IsUtf8-take (a ++ b ∷ r) (length a) u (IsCharBoundary-before_ascii (a ++ b ∷ r) (length a) (omega (arith, sizes)) (omega (arith, here, low))) in
    let back : IsUtf8 (drop (length a + 1) (a ++ b ∷ r)) = IsUtf8-drop (a ++ b ∷ r) (length a + 1) u (IsCharBoundary-after_ascii (a ++ b ∷ r) (length a) u (omega (arith, sizes)) (omega (arith, here, low))) in
    let rest : drop (length a + 1) (a ++ b ∷ r) ≡ r = ap (drop (length a + 1)) (sym (append_assoc a (b ∷ []) r)) ∙ drop_at (a ++ b ∷ []) r (length a + 1) (length-append a (b ∷ [])) in
    (subst IsUtf8 (take_at a (b ∷ r) (length a) refl) front, subst IsUtf8 rest back)

-- each byte is below 128
abbrev Low : List ℕ → Type 0
Low [] = Unit {0}
Low (b ∷ s) = (b < 128) × Low s

low_append : (a b : List ℕ) → Low a → Low b → Low (a ++ b)
low_append [] b h g = g
low_append (x ∷ a) b h g = (h.0, low_append a b h.1 g)

low_dot : (P Q : List ℕ → Type 0) → ((t : List ℕ) → P t → Low t) → ((t : List ℕ) → Q t → Low t) → (s : List ℕ) → (P · Q) s → Low s
low_dot P Q p q s l = subst Low (sym (l.2)) (low_append l.0 l.1 (p l.0 l.3) (q l.1 l.4))

low_rest : (s r : List ℕ) → Low s → IsUtf8 (s ++ r) → IsUtf8 r
low_rest [] r h u = u
low_rest (b ∷ s) r h u = low_rest s r h.1 (split_ascii [] b (s ++ r) h.0 u).1

scalar_low : (c : ℕ) → c < 0xD800 → IsScalar c
scalar_low c h = rw (lt-ltb c 0xD800 h) refl

low_byte : (b : ℕ) → b < 128 → IsUtf8 (b ∷ [])
low_byte b h = subst IsUtf8 (encode_ascii b h) (IsUtf8-encode b (scalar_low b (omega (arith, h))))

scalar_high : (c : ℕ) → 0xE000 ≤ c → c < 0x11_0000 → IsScalar c
scalar_high c lo hi =
    let one : nat_lt c 0xD800 ≡ false = le-ltb c 0xD800 (omega (arith, lo)) in
    let two : (nat_le 0xE000 c && nat_lt c 0x11_0000) ≡ true = and_from (nat_le 0xE000 c) (nat_lt c 0x11_0000) (le-leb 0xE000 c lo) (lt-ltb c 0x11_0000 hi) in
    rw (one, two) refl

hex_byte : (c d : ℕ) → hex_digit_value c ≡ Some d → c < 128
hex_byte c d h =
    elim (chosen (nat_le 65 c && nat_le c 70) (Some (c - 55)) (if nat_le 97 c && nat_le c 102 then Some (c - 87) else (if nat_le 48 c && nat_le c 57 then Some (c - 48) else None)) (Some d) h) [
      | inl a ↦ omega (arith, leb-true c 70 (and_parts (nat_le 65 c) (nat_le c 70) a.0).1)
      | inr b ↦
          elim (chosen (nat_le 97 c && nat_le c 102) (Some (c - 87)) (if nat_le 48 c && nat_le c 57 then Some (c - 48) else None) (Some d) b.1) [
            | inl a ↦ omega (arith, leb-true c 102 (and_parts (nat_le 97 c) (nat_le c 102) a.0).1)
            | inr f ↦
                elim (chosen (nat_le 48 c && nat_le c 57) (Some (c - 48)) None (Some d) f.1) [
                  | inl a ↦ omega (arith, leb-true c 57 (and_parts (nat_le 48 c) (nat_le c 57) a.0).1)
                  | inr g ↦ absurd (cc (g.1))
                ]
          ]
    ]

hex_low : (d : ℕ) (s : List ℕ) → HexDigit d s → Low s
hex_low d s l = subst Low (sym (l.2)) (hex_byte l.0 d l.1, tt)

digits_low : (u : ℕ) (s : List ℕ) → Digits16 u s → Low s
digits_low u s (a, b, c, d, e, l) =
    low_dot (HexDigit a) (HexDigit b · HexDigit c · HexDigit d) (hex_low a) (λ t m. low_dot (HexDigit b) (HexDigit c · HexDigit d) (hex_low b) (λ v n. low_dot (HexDigit c) (HexDigit d) (hex_low c) (hex_low d) v n) t m) s l

digits_small : (u : ℕ) (s : List ℕ) → Digits16 u s → u < 0x1_0000
digits_small u s (a, b, c, d, e, l) =
    let am : a ≤ 15 = hex_small l.3.0 a l.3.1 in
    let bm : b ≤ 15 = hex_small l.4.3.0 b l.4.3.1 in
    let cm : c ≤ 15 = hex_small l.4.4.3.0 c l.4.4.3.1 in
    let dm : d ≤ 15 = hex_small l.4.4.4.0 d l.4.4.4.1 in
    omega (arith, e)

unit_scalar : (u : ℕ) → u < 0x1_0000 → is_high_surrogate u ≡ false → is_low_surrogate u ≡ false → IsScalar u
unit_scalar u small high low =
    elim (cases_lt u 0xD800) [
      | inl less ↦ scalar_low u less
      | inr from_high ↦
          elim (cases_lt u 0xDC00) [
            | inl less ↦ absurd (both_ways (is_high_surrogate u) high (and_from (nat_le 0xD800 u) (nat_lt u 0xDC00) (le-leb 0xD800 u from_high) (lt-ltb u 0xDC00 less)))
            | inr from_low ↦
                elim (cases_lt u 0xE000) [
                  | inl less ↦ absurd (both_ways (is_low_surrogate u) low (is_low u from_low less))
                  | inr behind ↦ scalar_high u behind (omega (arith, small))
                ]
          ]
    ]

pair_scalar : (high low : ℕ) → is_high_surrogate high ≡ true → is_low_surrogate low ≡ true → IsScalar (surrogate_pair_char high low)
pair_scalar high low h l =
    let p = and_parts (nat_le 0xD800 high) (nat_lt high 0xDC00) h in
    let q = and_parts (nat_le 0xDC00 low) (nat_lt low 0xE000) l in
    let a : 0xD800 ≤ high = leb-true 0xD800 high p.0 in
    let b : high < 0xDC00 = ltb-true high 0xDC00 p.1 in
    let c : 0xDC00 ≤ low = leb-true 0xDC00 low q.0 in
    let d : low < 0xE000 = ltb-true low 0xE000 q.1 in
    scalar_high (surrogate_pair_char high low) (omega arith) (omega arith)

letter_low : (c b : ℕ) → escaped c ≡ Some b → c < 128
letter_low c b h =
    elim (cases_lt c 128) [
      | inl less ↦ less
      | inr more ↦
          let none : escaped c ≡ None = rw (
            ne_eqb c 0x22 (λ e. omega (arith, e, more)),
            ne_eqb c 0x5c (λ e. omega (arith, e, more)),
            ne_eqb c 0x2f (λ e. omega (arith, e, more)),
            ne_eqb c 0x62 (λ e. omega (arith, e, more)),
            ne_eqb c 0x66 (λ e. omega (arith, e, more)),
            ne_eqb c 0x6e (λ e. omega (arith, e, more)),
            ne_eqb c 0x72 (λ e. omega (arith, e, more)),
            ne_eqb c 0x74 (λ e. omega (arith, e, more)),
          ) refl in
          absurd (cc (sym none ∙ h))
    ]

u_low : (t : List ℕ) → Word (0x75 ∷ []) t → Low t
u_low t w = subst Low (sym w) (omega arith, tt)

slash_low : (t : List ℕ) → Word (0x5c ∷ 0x75 ∷ []) t → Low t
slash_low t w = subst Low (sym w) (omega arith, (omega arith, tt))

escape_low : (v s : List ℕ) → Escape v s → Low s × IsUtf8 v
escape_low v s (inl l) = (subst Low (sym (l.4)) (letter_low l.0 l.1 l.2, tt), subst IsUtf8 (sym (l.3)) (low_byte l.1 (letter_some l.0 l.1 l.2).1))
escape_low v s (inr (inl l)) =
    let digits : Digits16 l.0 l.4.1 = l.4.4 in
    (low_dot (Word (0x75 ∷ [])) (Digits16 l.0) u_low (digits_low l.0) s l.4, subst IsUtf8 (sym (l.3)) (IsUtf8-encode l.0 (unit_scalar l.0 (digits_small l.0 l.4.1 digits) l.1 l.2)))
escape_low v s (inr (inr l)) = (
  low_dot (Word (0x75 ∷ [])) (Digits16 l.0 · Word (0x5c ∷ 0x75 ∷ []) · Digits16 l.1) u_low
      (λ t m. low_dot (Digits16 l.0) (Word (0x5c ∷ 0x75 ∷ []) · Digits16 l.1) (digits_low l.0) (λ k n. low_dot (Word (0x5c ∷ 0x75 ∷ [])) (Digits16 l.1) slash_low (digits_low l.1) k n) t m) s l.5,
  subst IsUtf8 (sym (l.4)) (IsUtf8-encode (surrogate_pair_char l.0 l.1) (pair_scalar l.0 l.1 l.2 l.3)),
)

step_by : (acc text t piece s : List ℕ) → IsUtf8 (acc ++ text) → text ≡ s ++ t → Piece piece s → IsUtf8 ((acc ++ piece) ++ t)
step_by acc text t piece s u e (inl l) = subst IsUtf8 (ap (λ (z : List ℕ). acc ++ z) (e ∙ ap (λ (z : List ℕ). z ++ t) (l.5 ∙ sym (l.4))) ∙ sym (append_assoc acc piece t)) u
step_by acc text t piece s u e (inr l) =
    let whole : text ≡ 0x5c ∷ (l.1 ++ t) = e ∙ ap (λ (z : List ℕ). z ++ t) (l.2 ∙ ap (λ (z : List ℕ). z ++ l.1) l.3) in
    let cut = split_ascii acc 0x5c (l.1 ++ t) (omega arith) (subst (λ (z : List ℕ). IsUtf8 (acc ++ z)) whole u) in
    let esc = escape_low piece l.1 l.4 in
    IsUtf8-append (acc ++ piece) t (IsUtf8-append acc piece cut.0 esc.1) (low_rest l.1 t esc.0 cut.1)

piece_step : (named : Bool) (acc text t piece : List ℕ) → IsUtf8 (acc ++ text) → piece_item named text ≡ Ok (Some piece, t) → IsUtf8 ((acc ++ piece) ++ t)
piece_step named acc text t piece u e =
    let took = piece_takes named text (Some piece) t e in
    step_by acc text t piece took.0 u took.1 took.2.0

-- what is read up to the last quote is UTF-8
piece_done : (named : Bool) (others : List ℕ → Read (List ℕ)) → ((acc text v r : List ℕ) → IsUtf8 (acc ++ text) → others text ≡ Ok (v, r) → IsUtf8 (acc ++ v))
    → (acc text v r : List ℕ) (x : Option (List ℕ)) (t : List ℕ) → IsUtf8 (acc ++ text) → piece_item named text ≡ Ok (x, t) → behind_item [] (λ piece bytes. piece ++ bytes) others x t ≡ Ok (v, r) → IsUtf8 (acc ++ v)
piece_done named others ih acc text v r None t u e h =
    let took = piece_takes named text None t e in
    let end = pair_of [] v t r h in
    let whole : text ≡ 0x22 ∷ t = took.1 ∙ ap (λ (z : List ℕ). z ++ t) took.2 in
    let front : IsUtf8 acc = (split_ascii acc 0x22 t (omega arith) (subst (λ (z : List ℕ). IsUtf8 (acc ++ z)) whole u)).0 in
    subst (λ (z : List ℕ). IsUtf8 (acc ++ z)) end.0 (subst IsUtf8 (sym (append-nil acc)) front)
piece_done named others ih acc text v r (Some piece) t u e h =
    let b = bind_ok (others t) (λ n. Ok (piece ++ n.0, n.1)) (v, r) h in
    let last = pair_of (piece ++ b.0.0) v b.0.1 r b.2 in
    let more : IsUtf8 ((acc ++ piece) ++ b.0.0) = ih (acc ++ piece) t b.0.0 b.0.1 (piece_step named acc text t piece u e) b.1 in
    subst IsUtf8 (append_assoc acc piece b.0.0 ∙ ap (λ (z : List ℕ). acc ++ z) last.0) more

pieces_done : (named : Bool) (fuel : ℕ) (acc text v r : List ℕ) → IsUtf8 (acc ++ text) → many_for [] (λ piece bytes. piece ++ bytes) (piece_item named) fuel text ≡ Ok (v, r) → IsUtf8 (acc ++ v)
pieces_done named zero acc text v r u h = absurd cc
pieces_done named (suc fuel) acc text v r u h =
    let b = bind_ok (piece_item named text) (λ x. behind_item [] (λ piece bytes. piece ++ bytes) (many_for [] (λ piece bytes. piece ++ bytes) (piece_item named) fuel) x.0 x.1) (v, r) h in
    piece_done named (many_for [] (λ piece bytes. piece ++ bytes) (piece_item named) fuel) (pieces_done named fuel) acc text v r b.0.0 b.0.1 u b.1 b.2

-- what is read up to another place becomes pieces and a quote, and their bytes are UTF-8 behind those before
abbrev Ending : Bool → List ℕ → List ℕ → List ℕ → Type 0
Ending named acc text r = (p : List ℕ) × (more : List ℕ) × (v : List ℕ) × (text ≡ p ++ r) × IsUtf8 (acc ++ v) × Many [] (λ piece bytes. piece ++ bytes) (PieceParts named) v (p ++ more)

at_quote : (named : Bool) (acc text r : List ℕ) → text ≡ r → IsUtf8 acc → Ending named acc text r
at_quote named acc text r e u = ([], 0x22 ∷ [], [], e, subst IsUtf8 (sym (append-nil acc)) u, ([], refl, refl))

piece_stop : (named : Bool) (acc text r : List ℕ) → IsUtf8 (acc ++ text) → piece_item named text ≡ Err r → Ending named acc text r
unfolding piece_item
piece_stop named acc [] r u h =
    let same : [] ≡ r = cc in
    at_quote named acc [] r same (subst IsUtf8 (append-nil acc) u)
piece_stop named acc (b ∷ text) r u h =
    elim (chosen (b == 0x22) (Ok (None, text)) (piece_behind named b text) (Err r) h) [
      | inl hit ↦ absurd (cc (hit.1))
      | inr miss ↦
          elim (chosen (b == 0x5c) (escape_at named text >>= some_of) (plain_at b text) (Err r) miss.1) [
            | inl hit ↦
                elim (bind_err (escape_at named text) some_of r hit.1) [
                  | inl e ↦
                      let t = (escape_core named).stops text r (acc ++ b ∷ [], subst IsUtf8 (sym (append_assoc acc (b ∷ []) text)) u) e in
                      let same : b ≡ 0x5c = eqb-true b 0x5c hit.0 in
                      let cut = split_ascii acc b text (omega (arith, same)) u in
                      let esc = escape_low t.2 (t.0 ++ t.1) t.4.0 in
                      let one : PieceParts named (Some t.2) (0x5c ∷ (t.0 ++ t.1)) = (inr (0x5c ∷ [], t.0 ++ t.1, refl, refl, t.4.0), t.4.1) in (
                        0x5c ∷ t.0,
                        t.1 ++ 0x22 ∷ [],
                        t.2 ++ [],
                        ap (λ (k : ℕ). k ∷ text) same ∙ ap (λ (z : List ℕ). 0x5c ∷ z) t.3,
                        IsUtf8-append acc (t.2 ++ []) cut.0 (subst IsUtf8 (sym (append-nil t.2)) esc.1),
                        (t.2 ∷ [], refl, (0x5c ∷ (t.0 ++ t.1), 0x22 ∷ [], ap (λ (z : List ℕ). 0x5c ∷ z) (sym (append_assoc t.0 t.1 (0x22 ∷ []))), one, refl)),
                      )
                  | inr x ↦ absurd (cc (x.2))
                ]
            | inr other ↦
                elim (chosen (nat_lt b 0x20) (Err (b ∷ text)) (Ok (Some (b ∷ []), text)) (Err r) other.1) [
                  | inl small ↦
                      let same : b ∷ text ≡ r = cc (small.1) in
                      at_quote named acc (b ∷ text) r same (split_ascii acc b text (omega (arith, ltb-true b 0x20 small.0)) u).0
                  | inr plain ↦ absurd (cc (plain.1))
                ]
          ]
    ]

behind_stop : (named : Bool) (fuel : ℕ) (others : List ℕ → Read (List ℕ)) → ((acc text r : List ℕ) → length text ≤ fuel → IsUtf8 (acc ++ text) → others text ≡ Err r → Ending named acc text r)
    → (acc text r : List ℕ) (x : Option (List ℕ)) (t : List ℕ) → length text ≤ suc fuel → IsUtf8 (acc ++ text) → piece_item named text ≡ Ok (x, t) → behind_item [] (λ piece bytes. piece ++ bytes) others x t ≡ Err r
    → Ending named acc text r
behind_stop named fuel others ih acc text r None t le u e h = absurd cc
behind_stop named fuel others ih acc text r (Some piece) t le u e h =
    let took = piece_takes named text (Some piece) t e in
    let shorter : length t ≤ fuel = omega (arith, le, ap length took.1, length-append took.0 t, piece_some named (Some piece) took.0 took.2) in
    elim (bind_err (others t) (λ n. Ok (piece ++ n.0, n.1)) r h) [
      | inl f ↦
          let k = ih (acc ++ piece) t r shorter (piece_step named acc text t piece u e) f in (
            took.0 ++ k.0,
            k.1,
            piece ++ k.2,
            took.1 ∙ ap (λ (z : List ℕ). took.0 ++ z) k.3 ∙ sym (append_assoc took.0 k.0 r),
            subst IsUtf8 (append_assoc acc piece k.2) k.4,
            (piece ∷ k.5.0, ap (λ (z : List ℕ). piece ++ z) k.5.1, (took.0, k.0 ++ k.1, append_assoc took.0 k.0 k.1, took.2, k.5.2)),
          )
      | inr b ↦ absurd (cc (b.2))
    ]

pieces_stop : (named : Bool) (fuel : ℕ) (acc text r : List ℕ) → length text ≤ fuel → IsUtf8 (acc ++ text) → many_for [] (λ piece bytes. piece ++ bytes) (piece_item named) fuel text ≡ Err r → Ending named acc text r
pieces_stop named zero acc [] r le u h =
    let same : [] ≡ r = cc in
    at_quote named acc [] r same (subst IsUtf8 (append-nil acc) u)
pieces_stop named zero acc (b ∷ text) r le u h = absurd (omega (arith, le))
pieces_stop named (suc fuel) acc text r le u h =
    elim (bind_err (piece_item named text) (λ x. behind_item [] (λ piece bytes. piece ++ bytes) (many_for [] (λ piece bytes. piece ++ bytes) (piece_item named) fuel) x.0 x.1) r h) [
      | inl e ↦ piece_stop named acc text r u e
      | inr b ↦ behind_stop named fuel (many_for [] (λ piece bytes. piece ++ bytes) (piece_item named) fuel) (pieces_stop named fuel) acc text r b.0.0 b.0.1 le u b.1 b.2
    ]

-- ---- strings

abbrev inside_at : Bool → List ℕ → Read (List ℕ)
inside_at named text = many_at [] (λ piece bytes. piece ++ bytes) (piece_item named) text >>= λ x. if is_utf8 x.0 then Ok x else Err x.1

checked_moves : (t : Bool) (v q z w : List ℕ) (x : List ℕ × List ℕ) (other : Read (List ℕ)) → is_utf8 x.0 ≡ t → ((q : List ℕ) → x.1 ≡ q ++ z → other ≡ Ok (x.0, q ++ w))
    → Moved z w (if t then Ok x else Err x.1) (other >>= λ k. if is_utf8 k.0 then Ok k else Err k.1)
checked_moves true v q z w x other h m = λ q e. rw (m q e, h) refl
checked_moves false v q z w x other h m = λ q e. rw (m q e, h) refl

check_moves : (z w : List ℕ) (o other : Read (List ℕ)) → Moved z w o other → Moved z w (o >>= λ k. if is_utf8 k.0 then Ok k else Err k.1) (other >>= λ k. if is_utf8 k.0 then Ok k else Err k.1)
check_moves z w (Ok x) other m = checked_moves (is_utf8 x.0) [] [] z w x other refl m
check_moves z w (Err r) other m = λ q e. rw (m q e) refl

check_half : (L : List ℕ → List ℕ → Type 0) (f : List ℕ → Read (List ℕ)) → Half Any L f
    → Half Any (λ v s. (is_utf8 v ≡ true) × L v s) (λ text. f text >>= λ x. if is_utf8 x.0 then Ok x else Err x.1)
check_half L f c = record {
  takes = λ text v r h.
      let b = bind_ok (f text) (λ x. if is_utf8 x.0 then Ok x else Err x.1) (v, r) h in
      let k = kept_ok (is_utf8 b.0.0) b.0 (v, r) b.0.1 b.2 in
      let same : b.0.0 ≡ v = ap (λ (p : List ℕ × List ℕ). p.0) k.1 in
      let rest : b.0.1 ≡ r = ap (λ (p : List ℕ × List ℕ). p.1) k.1 in
      let t = c.takes text b.0.0 b.0.1 b.1 in
      (t.0, t.1 ∙ ap (λ (u : List ℕ). t.0 ++ u) rest, (ap is_utf8 (sym same) ∙ k.0, subst (λ (w : List ℕ). L w t.0) same t.2));
  again = λ v s r l h. rw (c.again v s r l.1 h, l.0) refl;
  stands = λ text r h.
      elim (bind_err (f text) (λ x. if is_utf8 x.0 then Ok x else Err x.1) r h) [
        | inl e ↦ c.stands text r e
        | inr b ↦
            let k = kept_err (is_utf8 b.0.0) b.0 b.0.1 r b.2 in
            let t = c.takes text b.0.0 b.0.1 b.1 in
            (t.0, t.1 ∙ ap (λ (u : List ℕ). t.0 ++ u) k.1)
      ];
  moves = λ p b x y. check_moves (b ∷ x) (b ∷ y) (f (p ++ b ∷ x)) (f (p ++ b ∷ y)) (c.moves p b x y);
}

no_zero_append : (a b : List ℕ) → HasNoZero a → HasNoZero b → HasNoZero (a ++ b)
no_zero_append [] b h g = g
no_zero_append (x ∷ a) b h g = (h.0, no_zero_append a b h.1 g)

no_zero_parts : (a b : List ℕ) → HasNoZero (a ++ b) → HasNoZero a × HasNoZero b
no_zero_parts [] b h = (tt, h)
no_zero_parts (x ∷ a) b h =
    let more = no_zero_parts a b h.1 in
    ((h.0, more.0), more.1)

clean_to : (named : Bool) (xs : List (List ℕ)) (s : List ℕ) → Each (Clean named Piece) xs s → Each Piece xs s × (named ≡ true → HasNoZero (concat xs))
clean_to named [] s l = (l, λ on. tt)
clean_to named (x ∷ xs) s l =
    let more = clean_to named xs l.1 l.4 in
    ((l.0, l.1, l.2, l.3.0, more.0), λ on. no_zero_append x (concat xs) (l.3.1 on) (more.1 on))

clean_from : (named : Bool) (xs : List (List ℕ)) (s : List ℕ) → Each Piece xs s → (named ≡ true → HasNoZero (concat xs)) → Each (Clean named Piece) xs s
clean_from named [] s l clean = l
clean_from named (x ∷ xs) s l clean = (l.0, l.1, l.2, (l.3, λ on. (no_zero_parts x (concat xs) (clean on)).0), clean_from named xs l.1 l.4 (λ on. (no_zero_parts x (concat xs) (clean on)).1))

folded_concat : (xs : List (List ℕ)) → folded [] (λ piece bytes. piece ++ bytes) xs ≡ concat xs
folded_concat [] = refl
folded_concat (x ∷ xs) = ap (λ (u : List ℕ). x ++ u) (folded_concat xs)

abbrev StringParts : Bool → List ℕ → List ℕ → Type 0
StringParts named = Then (λ (v : Unit {0}) s. Word (0x22 ∷ []) s) (λ v bytes s. (is_utf8 bytes ≡ true) × Many [] (λ piece bytes. piece ++ bytes) (PieceParts named) bytes s)

abbrev pub StringOf : Bool → List ℕ → List ℕ → Type 0
StringOf named bytes s = String bytes s × (named ≡ true → HasNoZero bytes)

string_to : (named : Bool) (bytes s : List ℕ) → StringParts named bytes s → StringOf named bytes s
string_to named bytes s (v, l) =
    let m = l.4.1 in
    let same : bytes ≡ concat m.0 = m.1 ∙ folded_concat m.0 in
    let each = each_to (Word (0x22 ∷ [])) (Clean named Piece) m.0 l.1 m.2 in
    let clean = clean_to named m.0 each.0 each.3 in
    ((l.4.0, (l.0, l.1, l.2, l.3, (each.0, each.1, each.2, (m.0, same, clean.0), each.4))), λ on. subst HasNoZero (sym same) (clean.1 on))

string_from : (named : Bool) (bytes s : List ℕ) → StringOf named bytes s → StringParts named bytes s
string_from named bytes s (l, clean) =
    let q = l.1 in
    let m = q.4 in
    let xs : List (List ℕ) = m.3.0 in
    let same : bytes ≡ concat xs = m.3.1 in
    let each = clean_from named xs m.0 m.3.2 (λ on. subst HasNoZero same (clean on)) in
    (tt, (q.0, q.1, q.2, q.3, (l.0, (xs, same ∙ sym (folded_concat xs), each_from (Word (0x22 ∷ [])) (Clean named Piece) xs q.1 (m.0, m.1, m.2, each, m.4)))))

string_half : (named : Bool) → Half Any (StringParts named) (string_at named)
unfolding string_at
string_half named = then_half Any (λ (v : Unit {0}) s. Word (0x22 ∷ []) s) (byte_at 0x22) Any (λ v bytes s. (is_utf8 bytes ≡ true) × Many [] (λ piece bytes. piece ++ bytes) (PieceParts named) bytes s)
    (λ v text. many_at [] (λ piece bytes. piece ++ bytes) (piece_item named) text >>= λ x. if is_utf8 x.0 then Ok x else Err x.1) (half_of Any (λ (v : Unit {0}) s. Word (0x22 ∷ []) s) (byte_at 0x22) (byte_core 0x22))
    (λ v. check_half (Many [] (λ piece bytes. piece ++ bytes) (PieceParts named)) (many_at [] (λ piece bytes. piece ++ bytes) (piece_item named))
    (many_half [] (λ piece bytes. piece ++ bytes) Any (PieceParts named) (piece_item named) (piece_half named) (piece_some named) (λ r. tt) (λ x o b r l. tt))) (λ v w b r l h. tt)

-- ---- what a string that ends too early can become

inside_stop : (named : Bool) (text r : List ℕ) → IsUtf8 text → inside_at named text ≡ Err r → Ending named [] text r
unfolding many_at
inside_stop named text r u h =
    elim (bind_err (many_at [] (λ piece bytes. piece ++ bytes) (piece_item named) text) (λ x. if is_utf8 x.0 then Ok x else Err x.1) r h) [
      | inl e ↦ pieces_stop named (length text) [] text r (omega arith) u e
      | inr b ↦
          let fit : IsUtf8 b.0.0 = pieces_done named (length text) [] text b.0.0 b.0.1 u b.1 in
          let k = kept_err (is_utf8 b.0.0) b.0 b.0.1 r b.2 in
          absurd (both_ways (is_utf8 b.0.0) k.0 (is_utf8-from_IsUtf8 b.0.0 fit))
    ]

string_stops : (named : Bool) (text r : List ℕ) → Fine text → string_at named text ≡ Err r → Completed (StringParts named) text r
unfolding string_at
string_stops named text r fine h =
    elim (bind_err (byte_at 0x22 text) (λ x. inside_at named x.1) r h) [
      | inl e ↦
          let t = (byte_core 0x22).stops text r fine e in
          let empty : is_utf8 [] ≡ true = is_utf8-from_IsUtf8 [] IsUtf8-nil in
          (t.0, t.1 ++ 0x22 ∷ [], [], t.3, (tt, (t.0 ++ t.1, 0x22 ∷ [], sym (append_assoc t.0 t.1 (0x22 ∷ [])), t.4, (empty, ([], refl, refl)))))
      | inr b ↦
          let took = (byte_core 0x22).takes text b.0.0 b.0.1 b.1 in
          let whole : text ≡ 0x22 ∷ b.0.1 = took.1 ∙ ap (λ (u : List ℕ). u ++ b.0.1) took.2 in
          let fit : IsUtf8 b.0.1 = (split_ascii fine.0 0x22 b.0.1 (omega arith) (subst (λ (z : List ℕ). IsUtf8 (fine.0 ++ z)) whole fine.1)).1 in
          let k = inside_stop named b.0.1 r fit b.2 in
          (0x22 ∷ k.0, k.1, k.2, whole ∙ ap (λ (z : List ℕ). 0x22 ∷ z) k.3, (tt, (0x22 ∷ [], k.0 ++ k.1, refl, refl, (is_utf8-from_IsUtf8 k.2 k.4, k.5))))
    ]

pub string_core : (named : Bool) → Core Any (StringOf named) (string_at named)
string_core named = same_core Any Any (StringParts named) (StringOf named) (string_at named) (core_of Any (StringParts named) (string_at named) (string_half named) (string_stops named))
    (string_to named) (string_from named) (λ v r h. tt)

-- a name that is read has no 0
pub name_no_zero : (named : Bool) (text v r : List ℕ) → string_at named text ≡ Ok (v, r) → named ≡ true → HasNoZero v
name_no_zero named text v r h on = ((string_core named).takes text v r h).2.1 on
