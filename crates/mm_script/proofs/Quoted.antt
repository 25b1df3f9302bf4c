-- A string in quotes ends in one place alone, and stands for one string.
use Rattle.std.proofs.Common.{◌≡◌, ◌≢◌, ℕ, zero, suc, ◌<◌, ◌⊎◌, inl, inr, Bool, true, false, cond, List, [], ◌∷◌, ◌++◌, refl, sym, ap, ◌∙◌, arith, append_assoc, Result, Ok, Err}
use Rattle.std.specs.Prelude.{codes, ◌||◌, ◌==◌, nat_lt, flat_map}
use Rattle.std.proofs.lemmas.Bool.{or_parts, eqb-true, eqb-false, ltb-true}
use Rattle.std.proofs.lemmas.List.Concat.{flat_map-cons}
use Rattle.hex.specs.Hex.{encode_lower, encode_with, IsBytes, decode_of}
use Rattle.hex.specs.declared.error.FromHexError.{FromHexError}
use Rattle.hex.proofs.HexLemmas.{decode_of-encode_lower}
use Rattle.mm_script.proofs.Parts.{head_is, tail_is}
use Rattle.mm_notation.specs.Written.{written_byte, written_string}

-- the three ways in which a byte is written
data Way (b : ℕ) (text : List ℕ) : Type 0 where
  behind_mark : (b ≡ 0x22) ⊎ (b ≡ 0x5c) → text ≡ 0x5c ∷ b ∷ [] → Way b text
  as_digits : (high low : ℕ) → encode_lower (b ∷ []) ≡ high ∷ low ∷ [] → b < 0x20 → text ≡ 0x5c ∷ 0x75 ∷ 0x30 ∷ 0x30 ∷ high ∷ low ∷ [] → Way b text
  as_itself : b ≢ 0x22 → b ≢ 0x5c → text ≡ b ∷ [] → Way b text

two_digits : (b : ℕ) → (high : ℕ) × (low : ℕ) × (encode_lower (b ∷ []) ≡ high ∷ low ∷ [])
unfolding encode_with
two_digits b = (_, _, refl)

mark_is : (x y : Bool) → (x || y) ≡ true → (x ≡ true) ⊎ (y ≡ true)
mark_is true y e = inl refl
mark_is false y e = inr e

way : (b : ℕ) → Way b (written_byte b)
way b = by (b == 0x22 || b == 0x5c) refl
  where
    other : (s : Bool) → b ≢ 0x22 → b ≢ 0x5c → nat_lt b 0x20 ≡ s → Way b (cond s (codes "\\u00" ++ encode_lower (b ∷ [])) (b ∷ []))
    other true n m e = let d = two_digits b in as_digits d.0 d.1 d.2 (ltb-true b 0x20 e) (ap (λ (t : List ℕ). codes "\\u00" ++ t) d.2)
    other false n m e = as_itself n m refl

    by : (s : Bool) → (b == 0x22 || b == 0x5c) ≡ s → Way b (cond s (0x5c ∷ b ∷ []) (cond (nat_lt b 0x20) (codes "\\u00" ++ encode_lower (b ∷ [])) (b ∷ [])))
    by true e = behind_mark (elim (mark_is (b == 0x22) (b == 0x5c) e) [ inl a ↦ inl (eqb-true b 0x22 a) | inr a ↦ inr (eqb-true b 0x5c a) ]) refl
    by false e = let n = or_parts (b == 0x22) (b == 0x5c) e in other (nat_lt b 0x20) (eqb-false b 0x22 n.0) (eqb-false b 0x5c n.1) refl

one_byte : (b : ℕ) → b < 256 → IsBytes (b ∷ [])
one_byte b lt zero = lt
one_byte b lt (suc i) = omega arith

abbrev first_of : Result (List ℕ) FromHexError → ℕ
first_of (Ok []) = 0
first_of (Ok (b ∷ bytes)) = b
first_of (Err fault) = 0

digits_once : (x y : ℕ) (h l : ℕ) → x < 0x20 → y < 0x20 → encode_lower (x ∷ []) ≡ h ∷ l ∷ [] → encode_lower (y ∷ []) ≡ h ∷ l ∷ [] → x ≡ y
digits_once x y h l small less e f =
    ap first_of
    (sym (decode_of-encode_lower (x ∷ []) (one_byte x (omega (arith, small)))) ∙ ap decode_of (e ∙ sym f) ∙ decode_of-encode_lower (y ∷ []) (one_byte y (omega (arith, less))))

mark_is_no_digit : (b : ℕ) → (b ≡ 0x22) ⊎ (b ≡ 0x5c) → b ≡ 0x75 → ⊥
mark_is_no_digit b (inl is) e = omega (arith, is, e)
mark_is_no_digit b (inr is) e = omega (arith, is, e)

two_are : (x y : ℕ) (s t : List ℕ) → x ∷ s ≡ y ∷ t → (x ≡ y) × (s ≡ t)
two_are x y s t e = (head_is x y s t e, tail_is x y s t e)

ways_once : (x y : ℕ) (a b s t : List ℕ) → Way x a → Way y b → a ++ s ≡ b ++ t → (x ≡ y) × (s ≡ t)
ways_once x y a b s t (behind_mark m is) (behind_mark n also) e =
    let whole : 0x5c ∷ x ∷ s ≡ 0x5c ∷ y ∷ t = sym (ap (λ (u : List ℕ). u ++ s) is) ∙ e ∙ ap (λ (u : List ℕ). u ++ t) also in two_are x y s t (tail_is _ _ _ _ whole)
ways_once x y a b s t (behind_mark m is) (as_digits high low d less also) e =
    let whole : 0x5c ∷ x ∷ s ≡ 0x5c ∷ 0x75 ∷ 0x30 ∷ 0x30 ∷ high ∷ low ∷ t = sym (ap (λ (u : List ℕ). u ++ s) is) ∙ e ∙ ap (λ (u : List ℕ). u ++ t) also in
    let same : x ≡ 0x75 = head_is _ _ _ _ (tail_is _ _ _ _ whole) in absurd (mark_is_no_digit x m same)
ways_once x y a b s t (behind_mark m is) (as_itself n o also) e =
    let whole : 0x5c ∷ x ∷ s ≡ y ∷ t = sym (ap (λ (u : List ℕ). u ++ s) is) ∙ e ∙ ap (λ (u : List ℕ). u ++ t) also in
    let same : y ≡ 0x5c = sym (head_is _ _ _ _ whole) in absurd (o same)
ways_once x y a b s t (as_digits high low d less is) (behind_mark m also) e =
    let whole : 0x5c ∷ 0x75 ∷ 0x30 ∷ 0x30 ∷ high ∷ low ∷ s ≡ 0x5c ∷ y ∷ t = sym (ap (λ (u : List ℕ). u ++ s) is) ∙ e ∙ ap (λ (u : List ℕ). u ++ t) also in
    let same : y ≡ 0x75 = sym (head_is _ _ _ _ (tail_is _ _ _ _ whole)) in absurd (mark_is_no_digit y m same)
ways_once x y a b s t (as_digits high low d less is) (as_digits hi lo f small also) e =
    let whole : 0x5c ∷ 0x75 ∷ 0x30 ∷ 0x30 ∷ high ∷ low ∷ s ≡ 0x5c ∷ 0x75 ∷ 0x30 ∷ 0x30 ∷ hi ∷ lo ∷ t = sym (ap (λ (u : List ℕ). u ++ s) is) ∙ e ∙ ap (λ (u : List ℕ). u ++ t) also in
    let last : high ∷ low ∷ s ≡ hi ∷ lo ∷ t = tail_is _ _ _ _ (tail_is _ _ _ _ (tail_is _ _ _ _ (tail_is _ _ _ _ whole))) in
    let first : hi ≡ high = sym (head_is _ _ _ _ last) in
    let second : lo ≡ low = sym (head_is _ _ _ _ (tail_is _ _ _ _ last)) in
    (digits_once x y high low less small d (f ∙ ap (λ (c : ℕ). c ∷ lo ∷ []) first ∙ ap (λ (c : ℕ). high ∷ c ∷ []) second), tail_is _ _ _ _ (tail_is _ _ _ _ last))
ways_once x y a b s t (as_digits high low d less is) (as_itself n o also) e =
    let whole : 0x5c ∷ 0x75 ∷ 0x30 ∷ 0x30 ∷ high ∷ low ∷ s ≡ y ∷ t = sym (ap (λ (u : List ℕ). u ++ s) is) ∙ e ∙ ap (λ (u : List ℕ). u ++ t) also in
    let same : y ≡ 0x5c = sym (head_is _ _ _ _ whole) in absurd (o same)
ways_once x y a b s t (as_itself n o is) (behind_mark m also) e =
    let whole : x ∷ s ≡ 0x5c ∷ y ∷ t = sym (ap (λ (u : List ℕ). u ++ s) is) ∙ e ∙ ap (λ (u : List ℕ). u ++ t) also in
    let same : x ≡ 0x5c = head_is _ _ _ _ whole in absurd (o same)
ways_once x y a b s t (as_itself n o is) (as_digits high low d less also) e =
    let whole : x ∷ s ≡ 0x5c ∷ 0x75 ∷ 0x30 ∷ 0x30 ∷ high ∷ low ∷ t = sym (ap (λ (u : List ℕ). u ++ s) is) ∙ e ∙ ap (λ (u : List ℕ). u ++ t) also in
    let same : x ≡ 0x5c = head_is _ _ _ _ whole in absurd (o same)
ways_once x y a b s t (as_itself n o is) (as_itself p q also) e =
    let whole : x ∷ s ≡ y ∷ t = sym (ap (λ (u : List ℕ). u ++ s) is) ∙ e ∙ ap (λ (u : List ℕ). u ++ t) also in two_are x y s t whole

-- no byte is written so that it begins with a quote
no_quote : (x : ℕ) (a s t : List ℕ) → Way x a → a ++ s ≡ 0x22 ∷ t → ⊥
no_quote x a s t (behind_mark m is) e = let whole : 0x5c ∷ x ∷ s ≡ 0x22 ∷ t = sym (ap (λ (u : List ℕ). u ++ s) is) ∙ e in omega (arith, head_is _ _ _ _ whole)
no_quote x a s t (as_digits high low d less is) e = let whole : 0x5c ∷ 0x75 ∷ 0x30 ∷ 0x30 ∷ high ∷ low ∷ s ≡ 0x22 ∷ t = sym (ap (λ (u : List ℕ). u ++ s) is) ∙ e in omega (arith, head_is _ _ _ _ whole)
no_quote x a s t (as_itself n o is) e = let whole : x ∷ s ≡ 0x22 ∷ t = sym (ap (λ (u : List ℕ). u ++ s) is) ∙ e in n (head_is _ _ _ _ whole)

inside_more : (x : ℕ) (a s : List ℕ) → flat_map written_byte (x ∷ a) ++ s ≡ written_byte x ++ (flat_map written_byte a ++ s)
inside_more x a s = ap (λ (u : List ℕ). u ++ s) (flat_map-cons written_byte x a) ∙ append_assoc (written_byte x) (flat_map written_byte a) s

inside_once : (a b s t : List ℕ) → flat_map written_byte a ++ 0x22 ∷ s ≡ flat_map written_byte b ++ 0x22 ∷ t → (a ≡ b) × (s ≡ t)
inside_once [] [] s t e = (refl, tail_is _ _ _ _ e)
inside_once [] (y ∷ b) s t e = absurd (no_quote y (written_byte y) (flat_map written_byte b ++ 0x22 ∷ t) s (way y) (sym (inside_more y b (0x22 ∷ t)) ∙ sym e))
inside_once (x ∷ a) [] s t e = absurd (no_quote x (written_byte x) (flat_map written_byte a ++ 0x22 ∷ s) t (way x) (sym (inside_more x a (0x22 ∷ s)) ∙ e))
inside_once (x ∷ a) (y ∷ b) s t e =
    let both = ways_once x y (written_byte x) (written_byte y) (flat_map written_byte a ++ 0x22 ∷ s) (flat_map written_byte b ++ 0x22 ∷ t) (way x) (way y) (sym (inside_more x a (0x22 ∷ s)) ∙ e ∙ inside_more y b (0x22 ∷ t)) in
    let later = inside_once a b s t both.1 in
    (ap (λ (z : ℕ). z ∷ a) both.0 ∙ ap (λ (u : List ℕ). y ∷ u) later.0, later.1)

string_is : (a s : List ℕ) → written_string a ++ s ≡ 0x22 ∷ (flat_map written_byte a ++ 0x22 ∷ s)
string_is a s = append_assoc (0x22 ∷ flat_map written_byte a) (0x22 ∷ []) s

-- Texts that begin with a string in quotes begin with the same one, and go on the same.
pub string_once : (a b s t : List ℕ) → written_string a ++ s ≡ written_string b ++ t → (a ≡ b) × (s ≡ t)
string_once a b s t e =
    let whole : 0x22 ∷ (flat_map written_byte a ++ 0x22 ∷ s) ≡ 0x22 ∷ (flat_map written_byte b ++ 0x22 ∷ t) = sym (string_is a s) ∙ e ∙ string_is b t in
    inside_once a b s t (tail_is _ _ _ _ whole)
