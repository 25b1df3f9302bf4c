-- Values, arrays and objects as readers of their languages.
use Rattle.std.proofs.Common.{◌≡◌, ℕ, zero, suc, ◌+◌, ◌-◌, ◌^◌, ◌<◌, ◌≤◌, ◌==◌, ◌&&◌, ◌||◌, ◌⊎◌, inl, inr, true, false, List, [], ◌∷◌, ◌++◌, length, Option, Some, None, Result, Ok, Err, append_assoc, append-nil, refl, sym, ap, ◌∙◌, subst, arith, pos}
use Rattle.std.specs.Prelude.{nat_le, ◌≢◌, ℤ, negsuc, codes}
use Rattle.std.specs.Fmt.{decimal}
use Rattle.std.specs.Int.{w32, w64}
use Rattle.std.specs.Int.RustNames.{FitsSigned}
use Rattle.std.proofs.lemmas.Bool.{ne_eqb, leb-true, ltb-true, lt-ltb, and_parts, and_left, or_right, cases_Bool, both_ways, false≢true}
use Rattle.mm_bson.specs.Tree.{Tree, min_key, null, int32, int64, string, document, array, binary, object_id, boolean, date, timestamp, max_key, Elements, no_elements, element, Values, no_values, item, tree_depth, depth, values_depth}
use Rattle.mm_notation.specs.declared.kind.Kind.{Kind}
use Rattle.mm_notation.specs.declared.kind.Kind.TheVariants as kind
use Rattle.mm_notation.specs.Grammar.{◌·◌, Word, Spaces, Mark, Integer, Quoted, HexDigits, Opening, Value, Array, Object}
use Rattle.mm_notation.specs.Written.{is_small}
use Rattle.mm_notation.specs.Reading.{Read, ◌>>=◌, byte_at, skip, word_at, mark_at, is_digit, natural_at, integer_at, unsigned_at, hex_at, quoted_at, string_at, kind_of, kind_or, kind_at, constant_at, key_at, number, opening_at, call_at, timestamp_at, object_id_at, hex_data_at, value_of, value_in, object_at, array_at, value_at}
use Rattle.mm_notation.proofs.Core.{Core, Any, Then, bind_ok, bind_err, then_core, same_core, map_core, Moved, moved_err, if_moved, Half, half_of, same_half, map_half, Fine, Completed}
use Rattle.mm_notation.proofs.Leaves.{chosen, byte_core, word_core, mark_core, spaces_core, Spaceless, NotSpace, Digitless, NotDigit, natural_core, Ranged, integer_core, unsigned_core}
use Rattle.mm_notation.proofs.Texts.{Free, quoted_core, hex_core, StringOf, string_core}

-- ---- how texts begin

word_spaceless : (b : ℕ) (w s r : List ℕ) → b ≢ 0x20 → Word (b ∷ w) s → Spaceless (s ++ r)
word_spaceless b w s r ne l = rw l ne

front_of : (n : ℕ) (text : List ℕ) → natural_at n text ≡ Ok (n, []) → (b : ℕ) × (t : List ℕ) × (text ≡ b ∷ t) × (is_digit b ≡ true)
unfolding natural_at
front_of n [] h = absurd cc
front_of n (b ∷ text) h =
    elim (cases_Bool (is_digit b)) [
      | inl hit ↦ (b, text, refl, hit)
      | inr miss ↦
          let test : (is_digit b && nat_le (b - 0x30) n) ≡ false = and_left (is_digit b) (nat_le (b - 0x30) n) miss in
          let bad : natural_at n (b ∷ text) ≡ Err (b ∷ text) = rw test refl in
          absurd (cc (sym bad ∙ h))
    ]

-- the first digit of a number
pub decimal_front : (n : ℕ) → n < 2 ^ 63 + 1 → (b : ℕ) × (t : List ℕ) × (decimal n ≡ b ∷ t) × (is_digit b ≡ true)
decimal_front n fits =
    let read : natural_at n (decimal n ++ []) ≡ Ok (n, []) = (natural_core n (omega arith)).again n (decimal n) [] (omega arith, refl) tt in
    front_of n (decimal n) (ap (natural_at n) (sym (append-nil (decimal n))) ∙ read)

digit_range : (b : ℕ) → is_digit b ≡ true → (48 ≤ b) × (b ≤ 57)
digit_range b h =
    let p = and_parts (nat_le 0x30 b) (nat_le b 0x39) h in
    (leb-true 0x30 b p.0, leb-true b 0x39 p.1)

kind_digit : (b : ℕ) → is_digit b ≡ true → kind_of b ≡ Some kind.Integer
kind_digit b h =
    let r = digit_range b h in
    let one : (b == 0x7b) ≡ false = ne_eqb b 0x7b (λ e. omega (arith, e, r.1)) in
    let two : (b == 0x5b) ≡ false = ne_eqb b 0x5b (λ e. omega (arith, e, r.1)) in
    let three : (b == 0x22) ≡ false = ne_eqb b 0x22 (λ e. omega (arith, e, r.0)) in
    let four : (b == 0x2d || is_digit b) ≡ true = or_right (b == 0x2d) (is_digit b) h in
    rw (one, two, three, four) refl

-- ---- integers

ranged_to : (z : ℤ) (s : List ℕ) → Ranged (2 ^ 63) (2 ^ 63 - 1) z s → FitsSigned w64 z × Integer z s
ranged_to z s (n, inl l) = (subst (FitsSigned w64) (sym (l.0)) (record { sfits = omega (arith, l.1.0) }), (n, inl (l.0, l.1.1)))
ranged_to z s (zero, inr l) = (subst (FitsSigned w64) (sym (l.0)) (record { sfits = omega arith }), (0, inr (l.0, l.1.1)))
ranged_to z s (suc n, inr l) = (subst (FitsSigned w64) (sym (l.0)) (record { sfits = omega (arith, l.1.0) }), (suc n, inr (l.0, l.1.1)))

ranged_from : (z : ℤ) (s : List ℕ) → FitsSigned w64 z × Integer z s → Ranged (2 ^ 63) (2 ^ 63 - 1) z s
ranged_from z s (f, (n, inl l)) =
    let g : FitsSigned w64 (pos n) = subst (FitsSigned w64) l.0 f in
    (n, inl (l.0, (omega (arith, g.sfits), l.1)))
ranged_from z s (f, (zero, inr l)) = (0, inr (l.0, (omega arith, l.1)))
ranged_from z s (f, (suc n, inr l)) =
    let g : FitsSigned w64 (negsuc n) = subst (FitsSigned w64) l.0 f in
    (suc n, inr (l.0, (omega (arith, g.sfits), l.1)))

abbrev Whole : ℤ → List ℕ → Type 0
Whole z s = FitsSigned w64 z × Integer z s

whole_core : Core NotDigit Whole (integer_at (2 ^ 63) (2 ^ 63 - 1))
whole_core = same_core NotDigit NotDigit (Ranged (2 ^ 63) (2 ^ 63 - 1)) Whole (integer_at (2 ^ 63) (2 ^ 63 - 1)) (integer_core (2 ^ 63) (2 ^ 63 - 1) (omega arith) (omega arith)) ranged_to ranged_from (λ v r h. h)

-- an integer begins neither with a space nor with a quote
integer_front : (z : ℤ) (s : List ℕ) → Whole z s → (b : ℕ) × (t : List ℕ) × (s ≡ b ∷ t) × (kind_of b ≡ Some kind.Integer) × (b ≢ 0x20)
integer_front z s (f, (n, inl l)) =
    let g : FitsSigned w64 (pos n) = subst (FitsSigned w64) l.0 f in
    let d = decimal_front n (omega (arith, g.sfits)) in
    (d.0, d.1, l.1 ∙ d.2, kind_digit d.0 d.3, λ e. omega (arith, e, (digit_range d.0 d.3).0))
integer_front z s (f, (n, inr l)) = (0x2d, decimal n, l.1, refl, λ e. omega (arith, e))

whole_spaceless : (z : ℤ) (front more s r : List ℕ) → s ++ r ≡ front ++ more → Whole z front → Spaceless (s ++ r)
whole_spaceless z front more s r e l =
    let d = integer_front z front l in
    rw (e, d.2) (d.4)

unsigned_spaceless : (n : ℕ) (s r : List ℕ) → n < 2 ^ 63 → Integer (pos n) s → Spaceless (s ++ r)
unsigned_spaceless n s r small i =
    let d = integer_front (pos n) s (record { sfits = omega arith }, i) in
    rw (d.2) (d.4)

-- a mark behind a number is no digit
pub mark_digitless : (byte : ℕ) (s r : List ℕ) → is_digit byte ≡ false → Mark byte s → Digitless (s ++ r)
mark_digitless byte s r h (front, rest, e, (zero, spaces), word) = rw (e, spaces, word) h
mark_digitless byte s r h (front, rest, e, (suc n, spaces), word) = rw (e, spaces) refl

-- ---- words and calls

abbrev Opened : List ℕ → Unit {0} → List ℕ → Type 0
Opened word v s = Opening word s

opening_core : (word : List ℕ) → Core NotSpace (Opened word) (opening_at word)
unfolding opening_at
opening_core word = same_core NotSpace NotSpace (Then (λ (v : Unit {0}) s. Word word s) (λ v. Then (λ (w : Unit {0}) s. Mark 0x28 s) (λ w (x : Unit {0}) s. Spaces s))) (Opened word) (opening_at word)
    (then_core Any (λ (v : Unit {0}) s. Word word s) (word_at word) NotSpace (λ v. Then (λ (w : Unit {0}) s. Mark 0x28 s) (λ w (x : Unit {0}) s. Spaces s))
    (λ v text. mark_at 0x28 text >>= λ p. Ok (tt, skip p.1)) (word_core word)
    (λ v. then_core Any (λ (w : Unit {0}) s. Mark 0x28 s) (mark_at 0x28) NotSpace (λ w (x : Unit {0}) s. Spaces s) (λ w text. Ok (tt, skip text)) (mark_core 0x28 (λ e. omega (arith, e))) (λ w. spaces_core) (λ v w b r l h. tt))
    (λ v w b r l h. tt))
    (λ v s l. (l.1.0, l.1.1, l.1.2, l.1.3, l.1.4.1)) (λ v s l. (tt, (l.0, l.1, l.2, l.3, (tt, l.4)))) (λ v r h. h)

close_core : Core Any (λ (v : Unit {0}) s. Mark 0x29 s) (mark_at 0x29)
close_core = mark_core 0x29 (λ e. omega (arith, e))

comma_core : Core Any (λ (v : Unit {0}) s. Mark 0x2c s) (mark_at 0x2c)
comma_core = mark_core 0x2c (λ e. omega (arith, e))

abbrev CallParts : List ℕ → ℤ → List ℕ → Type 0
CallParts word = Then (Opened word) (λ o. Then Whole (λ z w s. (v : Unit {0}) × (w ≡ z) × Mark 0x29 s))

call_core : (word : List ℕ) → Core Any (CallParts word) (call_at word)
unfolding call_at
call_core word = then_core NotSpace (Opened word) (opening_at word) Any (λ o. Then Whole (λ z w s. (v : Unit {0}) × (w ≡ z) × Mark 0x29 s))
    (λ o text. integer_at (2 ^ 63) (2 ^ 63 - 1) text >>= λ z. mark_at 0x29 z.1 >>= λ c. Ok (z.0, c.1)) (opening_core word)
    (λ o. then_core NotDigit Whole (integer_at (2 ^ 63) (2 ^ 63 - 1)) Any (λ z w s. (v : Unit {0}) × (w ≡ z) × Mark 0x29 s) (λ z text. mark_at 0x29 text >>= λ c. Ok (z, c.1)) whole_core
    (λ z. map_core Free (λ (v : Unit {0}) s. Mark 0x29 s) (mark_at 0x29) (λ v. z) close_core) (λ z w b r l h. mark_digitless 0x29 b r refl l.2))
    (λ o w b r l h. whole_spaceless l.0 l.1.0 (l.1.1 ++ r) b r (ap (λ (u : List ℕ). u ++ r) l.1.2 ∙ append_assoc l.1.0 l.1.1 r) l.1.3)

-- ---- values that hold no others

abbrev U32 : ℕ → List ℕ → Type 0
U32 n s = (n ≤ 2 ^ 32 - 1) × Integer (pos n) s

u32_core : Core NotDigit U32 (unsigned_at (2 ^ 32 - 1))
u32_core = unsigned_core (2 ^ 32 - 1) (omega arith)

abbrev U8 : ℕ → List ℕ → Type 0
U8 n s = (n ≤ 255) × Integer (pos n) s

u8_core : Core NotDigit U8 (unsigned_at 255)
u8_core = unsigned_core 255 (omega arith)

abbrev Comma : Unit {0} → List ℕ → Type 0
Comma v s = Mark 0x2c s

abbrev Space : Unit {0} → List ℕ → Type 0
Space v s = Spaces s

abbrev TimestampParts : Tree → List ℕ → Type 0
TimestampParts = Then (Opened (codes "Timestamp")) (λ o. Then U32 (λ s. Then Comma (λ m. Then Space (λ p. Then U32 (λ i t x. (v : Unit {0}) × (t ≡ timestamp s i) × Mark 0x29 x)))))

first_part : (P Q : List ℕ → Type 0) (s r : List ℕ) → ((f m : List ℕ) → P f → Spaceless (f ++ m)) → (P · Q) s → Spaceless (s ++ r)
first_part P Q s r h l = subst Spaceless (sym (ap (λ (u : List ℕ). u ++ r) l.2 ∙ append_assoc l.0 l.1 r)) (h l.0 (l.1 ++ r) l.3)

first_digitless : (P Q : List ℕ → Type 0) (s r : List ℕ) → ((f m : List ℕ) → P f → Digitless (f ++ m)) → (P · Q) s → Digitless (s ++ r)
first_digitless P Q s r h l = subst Digitless (sym (ap (λ (u : List ℕ). u ++ r) l.2 ∙ append_assoc l.0 l.1 r)) (h l.0 (l.1 ++ r) l.3)

timestamp_core : Core Any TimestampParts timestamp_at
unfolding timestamp_at
timestamp_core = then_core NotSpace (Opened (codes "Timestamp")) (opening_at (codes "Timestamp")) Any (λ o. Then U32 (λ s. Then Comma (λ m. Then Space (λ p. Then U32 (λ i t x. (v : Unit {0}) × (t ≡ timestamp s i) × Mark 0x29 x)))))
    (λ o text. unsigned_at (2 ^ 32 - 1) text >>= λ s. mark_at 0x2c s.1 >>= λ m. unsigned_at (2 ^ 32 - 1) (skip m.1) >>= λ i. mark_at 0x29 i.1 >>= λ c. Ok (timestamp s.0 i.0, c.1)) (opening_core (codes "Timestamp"))
    (λ o. then_core NotDigit U32 (unsigned_at (2 ^ 32 - 1)) Any (λ s. Then Comma (λ m. Then Space (λ p. Then U32 (λ i t x. (v : Unit {0}) × (t ≡ timestamp s i) × Mark 0x29 x))))
    (λ s text. mark_at 0x2c text >>= λ m. unsigned_at (2 ^ 32 - 1) (skip m.1) >>= λ i. mark_at 0x29 i.1 >>= λ c. Ok (timestamp s i.0, c.1)) u32_core
    (λ s. then_core Any Comma (mark_at 0x2c) Any (λ m. Then Space (λ p. Then U32 (λ i t x. (v : Unit {0}) × (t ≡ timestamp s i) × Mark 0x29 x)))
    (λ m text. unsigned_at (2 ^ 32 - 1) (skip text) >>= λ i. mark_at 0x29 i.1 >>= λ c. Ok (timestamp s i.0, c.1)) comma_core
    (λ m. then_core NotSpace Space (λ text. Ok (tt, skip text)) Any (λ p. Then U32 (λ i t x. (v : Unit {0}) × (t ≡ timestamp s i) × Mark 0x29 x))
    (λ p text. unsigned_at (2 ^ 32 - 1) text >>= λ i. mark_at 0x29 i.1 >>= λ c. Ok (timestamp s i.0, c.1)) spaces_core
    (λ p. then_core NotDigit U32 (unsigned_at (2 ^ 32 - 1)) Any (λ i t x. (v : Unit {0}) × (t ≡ timestamp s i) × Mark 0x29 x) (λ i text. mark_at 0x29 text >>= λ c. Ok (timestamp s i, c.1)) u32_core
    (λ i. map_core Free (λ (v : Unit {0}) x. Mark 0x29 x) (mark_at 0x29) (λ v. timestamp s i) close_core) (λ i w b r l h. mark_digitless 0x29 b r refl l.2))
    (λ p w b r l h. first_part (U32 l.0) (λ x. (v : Unit {0}) × (w ≡ timestamp s l.0) × Mark 0x29 x) b r (λ f m u. unsigned_spaceless l.0 f m (omega (arith, u.0)) u.1) l.1))
    (λ m w b r l h. tt))
    (λ s w b r l h. first_digitless (Comma l.0) _ b r (λ f m u. mark_digitless 0x2c f m refl u) l.1))
    (λ o w b r l h. first_part (U32 l.0) _ b r (λ f m u. unsigned_spaceless l.0 f m (omega (arith, u.0)) u.1) l.1)

abbrev Id : List ℕ → List ℕ → Type 0
Id bytes s = (length bytes ≡ 12) × Quoted (HexDigits bytes) s

abbrev ObjectIdParts : Tree → List ℕ → Type 0
ObjectIdParts = Then (Opened (codes "ObjectId")) (λ o. Then Id (λ bytes t x. (v : Unit {0}) × (t ≡ object_id bytes) × Mark 0x29 x))

pub quoted_spaceless : (P : List ℕ → Type 0) (s r : List ℕ) → Quoted P s → Spaceless (s ++ r)
quoted_spaceless P s r l = first_part (Word (0x22 ∷ [])) (P · Word (0x22 ∷ [])) s r (λ f m w. word_spaceless 0x22 [] f m (λ e. omega (arith, e)) w) l

object_id_core : Core Any ObjectIdParts object_id_at
unfolding object_id_at
object_id_core = then_core NotSpace (Opened (codes "ObjectId")) (opening_at (codes "ObjectId")) Any (λ o. Then Id (λ bytes t x. (v : Unit {0}) × (t ≡ object_id bytes) × Mark 0x29 x))
    (λ o text. quoted_at 12 text >>= λ id. mark_at 0x29 id.1 >>= λ c. Ok (object_id id.0, c.1)) (opening_core (codes "ObjectId"))
    (λ o. then_core Any Id (quoted_at 12) Any (λ bytes t x. (v : Unit {0}) × (t ≡ object_id bytes) × Mark 0x29 x) (λ bytes text. mark_at 0x29 text >>= λ c. Ok (object_id bytes, c.1)) (quoted_core 12)
    (λ bytes. map_core Free (λ (v : Unit {0}) x. Mark 0x29 x) (mark_at 0x29) (λ v. object_id bytes) close_core) (λ i w b r l h. tt))
    (λ o w b r l h. first_part (Id l.0) _ b r (λ f m u. quoted_spaceless (HexDigits l.0) f m u.1) l.1)

abbrev Bytes : List ℕ → List ℕ → Type 0
Bytes bytes s = Quoted (HexDigits bytes) s

abbrev HexDataParts : Tree → List ℕ → Type 0
HexDataParts = Then (Opened (codes "HexData")) (λ o. Then U8 (λ k. Then Comma (λ m. Then Space (λ p. Then Bytes (λ bytes t x. (v : Unit {0}) × (t ≡ binary k bytes) × Mark 0x29 x)))))

hex_data_core : Core Any HexDataParts hex_data_at
unfolding hex_data_at
hex_data_core = then_core NotSpace (Opened (codes "HexData")) (opening_at (codes "HexData")) Any (λ o. Then U8 (λ k. Then Comma (λ m. Then Space (λ p. Then Bytes (λ bytes t x. (v : Unit {0}) × (t ≡ binary k bytes) × Mark 0x29 x)))))
    (λ o text. unsigned_at 255 text >>= λ k. mark_at 0x2c k.1 >>= λ m. hex_at (skip m.1) >>= λ bytes. mark_at 0x29 bytes.1 >>= λ c. Ok (binary k.0 bytes.0, c.1)) (opening_core (codes "HexData"))
    (λ o. then_core NotDigit U8 (unsigned_at 255) Any (λ k. Then Comma (λ m. Then Space (λ p. Then Bytes (λ bytes t x. (v : Unit {0}) × (t ≡ binary k bytes) × Mark 0x29 x))))
    (λ k text. mark_at 0x2c text >>= λ m. hex_at (skip m.1) >>= λ bytes. mark_at 0x29 bytes.1 >>= λ c. Ok (binary k bytes.0, c.1)) u8_core
    (λ k. then_core Any Comma (mark_at 0x2c) Any (λ m. Then Space (λ p. Then Bytes (λ bytes t x. (v : Unit {0}) × (t ≡ binary k bytes) × Mark 0x29 x)))
    (λ m text. hex_at (skip text) >>= λ bytes. mark_at 0x29 bytes.1 >>= λ c. Ok (binary k bytes.0, c.1)) comma_core
    (λ m. then_core NotSpace Space (λ text. Ok (tt, skip text)) Any (λ p. Then Bytes (λ bytes t x. (v : Unit {0}) × (t ≡ binary k bytes) × Mark 0x29 x))
    (λ p text. hex_at text >>= λ bytes. mark_at 0x29 bytes.1 >>= λ c. Ok (binary k bytes.0, c.1)) spaces_core
    (λ p. then_core Any Bytes hex_at Any (λ bytes t x. (v : Unit {0}) × (t ≡ binary k bytes) × Mark 0x29 x) (λ bytes text. mark_at 0x29 text >>= λ c. Ok (binary k bytes, c.1)) hex_core
    (λ bytes. map_core Free (λ (v : Unit {0}) x. Mark 0x29 x) (mark_at 0x29) (λ v. binary k bytes) close_core) (λ i w b r l h. tt))
    (λ p w b r l h. first_part (Bytes l.0) _ b r (λ f m u. quoted_spaceless (HexDigits l.0) f m u) l.1))
    (λ m w b r l h. tt))
    (λ s w b r l h. first_digitless (Comma l.0) _ b r (λ f m u. mark_digitless 0x2c f m refl u) l.1))
    (λ o w b r l h. first_part (U8 l.0) _ b r (λ f m u. unsigned_spaceless l.0 f m (omega (arith, u.0)) u.1) l.1)

abbrev WordOf : List ℕ → Unit {0} → List ℕ → Type 0
WordOf word v s = Word word s

abbrev Constant : List ℕ → Tree → Tree → List ℕ → Type 0
Constant word c t s = (v : Unit {0}) × (t ≡ c) × Word word s

constant_core : (word : List ℕ) (c : Tree) → Core Any (Constant word c) (constant_at word c)
constant_core word c = map_core Free (WordOf word) (word_at word) (λ v. c) (word_core word)

abbrev KeyParts : Tree → List ℕ → Type 0
KeyParts t s = Constant (codes "axKey") max_key t s ⊎ Constant (codes "inKey") min_key t s

key_takes : (text : List ℕ) (v : Tree) (r : List ℕ) → key_at text ≡ Ok (v, r) → (s : List ℕ) × (text ≡ s ++ r) × KeyParts v s
unfolding key_at
key_takes [] v r h = absurd cc
key_takes (b ∷ text) v r h =
    elim (chosen (b == 0x61) (constant_at (codes "axKey") max_key (b ∷ text)) (constant_at (codes "inKey") min_key (b ∷ text)) (Ok (v, r)) h) [
      | inl hit ↦
          let t = (constant_core (codes "axKey") max_key).takes (b ∷ text) v r hit.1 in
          (t.0, t.1, inl t.2)
      | inr miss ↦
          let t = (constant_core (codes "inKey") min_key).takes (b ∷ text) v r miss.1 in
          (t.0, t.1, inr t.2)
    ]

key_again : (v : Tree) (s r : List ℕ) → KeyParts v s → key_at (s ++ r) ≡ Ok (v, r)
unfolding key_at
key_again v s r (inl l) =
    let read : constant_at (codes "axKey") max_key (codes "axKey" ++ r) ≡ Ok (max_key, r) = (constant_core (codes "axKey") max_key).again max_key (codes "axKey") r (tt, refl, refl) tt in
    rw (l.2, l.1) read
key_again v s r (inr l) =
    let read : constant_at (codes "inKey") min_key (codes "inKey" ++ r) ≡ Ok (min_key, r) = (constant_core (codes "inKey") min_key).again min_key (codes "inKey") r (tt, refl, refl) tt in
    rw (l.2, l.1) read

key_stands : (text r : List ℕ) → key_at text ≡ Err r → (p : List ℕ) × (text ≡ p ++ r)
unfolding key_at
key_stands [] r h = ([], cc)
key_stands (b ∷ text) r h =
    elim (chosen (b == 0x61) (constant_at (codes "axKey") max_key (b ∷ text)) (constant_at (codes "inKey") min_key (b ∷ text)) (Err r) h) [
      | inl hit ↦ (constant_core (codes "axKey") max_key).stands (b ∷ text) r hit.1
      | inr miss ↦ (constant_core (codes "inKey") min_key).stands (b ∷ text) r miss.1
    ]

key_moves : (p : List ℕ) (c : ℕ) (x y : List ℕ) → Moved (c ∷ x) (c ∷ y) (key_at (p ++ c ∷ x)) (key_at (p ++ c ∷ y))
unfolding key_at
key_moves [] c x y =
    if_moved (c == 0x61) (c ∷ x) (c ∷ y) (constant_at (codes "axKey") max_key (c ∷ x)) (constant_at (codes "inKey") min_key (c ∷ x)) (constant_at (codes "axKey") max_key (c ∷ y)) (constant_at (codes "inKey") min_key (c ∷ y))
    ((constant_core (codes "axKey") max_key).moves [] c x y) ((constant_core (codes "inKey") min_key).moves [] c x y)
key_moves (d ∷ p) c x y =
    if_moved (d == 0x61) (c ∷ x) (c ∷ y) (constant_at (codes "axKey") max_key (d ∷ (p ++ c ∷ x))) (constant_at (codes "inKey") min_key (d ∷ (p ++ c ∷ x))) (constant_at (codes "axKey") max_key (d ∷ (p ++ c ∷ y))) (constant_at (codes "inKey") min_key (d ∷ (p ++ c ∷ y)))
    ((constant_core (codes "axKey") max_key).moves (d ∷ p) c x y) ((constant_core (codes "inKey") min_key).moves (d ∷ p) c x y)

key_stops : (text r : List ℕ) → Fine text → key_at text ≡ Err r → Completed KeyParts text r
unfolding key_at
key_stops [] r fine h = ([], codes "axKey", max_key, cc, inl (tt, refl, refl))
key_stops (b ∷ text) r fine h =
    elim (chosen (b == 0x61) (constant_at (codes "axKey") max_key (b ∷ text)) (constant_at (codes "inKey") min_key (b ∷ text)) (Err r) h) [
      | inl hit ↦
          let t = (constant_core (codes "axKey") max_key).stops (b ∷ text) r fine hit.1 in
          (t.0, t.1, t.2, t.3, inl t.4)
      | inr miss ↦
          let t = (constant_core (codes "inKey") min_key).stops (b ∷ text) r fine miss.1 in
          (t.0, t.1, t.2, t.3, inr t.4)
    ]

key_core : Core Any KeyParts key_at
key_core = record { takes = key_takes; again = λ v s r l h. key_again v s r l; stands = key_stands; moves = key_moves; stops = key_stops }

-- ---- kinds of values

-- what is read up to this place becomes a text of the language, or nothing is read
abbrev pub Stopped : {A : Type 0} → (A → List ℕ → Type 0) → (List ℕ → Read A) → Type 0
Stopped L read = (text r : List ℕ) → Fine text → read text ≡ Err r → Completed L text r ⊎ (text ≡ r)

map_stopped : {A B : Type 0} (L : A → List ℕ → Type 0) (f : List ℕ → Read A) (h : A → B) → Stopped L f → Stopped (λ w s. (v : A) × (w ≡ h v) × L v s) (λ text. f text >>= λ x. Ok (h x.0, x.1))
map_stopped L f h c text r fine e =
    elim (bind_err (f text) (λ x. Ok (h x.0, x.1)) r e) [
      | inl g ↦
          elim (c text r fine g) [
            | inl t ↦ inl (t.0, t.1, h t.2, t.3, (t.2, refl, t.4))
            | inr same ↦ inr same
          ]
      | inr b ↦ absurd (cc (b.2))
    ]

module _ (O : Elements → List ℕ → Type 0) (A : Values → List ℕ → Type 0) where
  abbrev KindParts : Kind → Tree → List ℕ → Type 0
  KindParts kind.Object t s = (d : Elements) × (t ≡ document d) × O d s
  KindParts kind.Array t s = (a : Values) × (t ≡ array a) × A a s
  KindParts kind.String t s = (v : List ℕ) × (t ≡ string v) × StringOf false v s
  KindParts kind.Integer t s = (z : ℤ) × (t ≡ number z) × Whole z s
  KindParts kind.True t s = Constant (codes "true") (boolean true) t s
  KindParts kind.False t s = Constant (codes "false") (boolean false) t s
  KindParts kind.Null t s = Constant (codes "null") null t s
  KindParts kind.Key t s = Then (WordOf (0x4d ∷ [])) (λ m. KeyParts) t s
  KindParts kind.Long t s = (z : ℤ) × (t ≡ int64 z) × CallParts (codes "NumberLong") z s
  KindParts kind.Date t s = (z : ℤ) × (t ≡ date z) × CallParts (codes "Date") z s
  KindParts kind.Timestamp t s = TimestampParts t s
  KindParts kind.ObjectId t s = ObjectIdParts t s
  KindParts kind.HexData t s = HexDataParts t s

  weaker : (L : Tree → List ℕ → Type 0) (f : List ℕ → Read Tree) → Core Any L f → Core NotDigit L f
  weaker L f c = same_core Any NotDigit L L f c (λ v s l. l) (λ v s l. l) (λ v r h. tt)

  -- the kinds of values that hold no others
  abbrev IsLeaf : Kind → Type 0
  IsLeaf kind.Object = ⊥
  IsLeaf kind.Array = ⊥
  IsLeaf _ = Unit {0}

  leaf_core : (objects : List ℕ → Read Elements) (arrays : List ℕ → Read Values) (k : Kind) → IsLeaf k → Core NotDigit (KindParts k) (value_of objects arrays k)
  leaf_core objects arrays kind.Object l = absurd l
  leaf_core objects arrays kind.Array l = absurd l
  leaf_core objects arrays kind.String l = weaker (KindParts kind.String) (value_of objects arrays kind.String) (map_core Free (StringOf false) (string_at false) string (string_core false))
  leaf_core objects arrays kind.Integer l = map_core Digitless Whole (integer_at (2 ^ 63) (2 ^ 63 - 1)) number whole_core
  leaf_core objects arrays kind.True l = weaker (KindParts kind.True) (value_of objects arrays kind.True) (constant_core (codes "true") (boolean true))
  leaf_core objects arrays kind.False l = weaker (KindParts kind.False) (value_of objects arrays kind.False) (constant_core (codes "false") (boolean false))
  leaf_core objects arrays kind.Null l = weaker (KindParts kind.Null) (value_of objects arrays kind.Null) (constant_core (codes "null") null)
  leaf_core objects arrays kind.Key l = weaker (KindParts kind.Key) (value_of objects arrays kind.Key)
      (then_core Any (WordOf (0x4d ∷ [])) (byte_at 0x4d) Any (λ m. KeyParts) (λ m. key_at) (byte_core 0x4d) (λ m. key_core) (λ v w b r l h. tt))
  leaf_core objects arrays kind.Long l = weaker (KindParts kind.Long) (value_of objects arrays kind.Long) (map_core Free (CallParts (codes "NumberLong")) (call_at (codes "NumberLong")) int64 (call_core (codes "NumberLong")))
  leaf_core objects arrays kind.Date l = weaker (KindParts kind.Date) (value_of objects arrays kind.Date) (map_core Free (CallParts (codes "Date")) (call_at (codes "Date")) date (call_core (codes "Date")))
  leaf_core objects arrays kind.Timestamp l = weaker TimestampParts timestamp_at timestamp_core
  leaf_core objects arrays kind.ObjectId l = weaker ObjectIdParts object_id_at object_id_core
  leaf_core objects arrays kind.HexData l = weaker HexDataParts hex_data_at hex_data_core

  leaf_half : (objects : List ℕ → Read Elements) (arrays : List ℕ → Read Values) (k : Kind) → IsLeaf k → Half NotDigit (KindParts k) (value_of objects arrays k)
  leaf_half objects arrays k l = half_of NotDigit (KindParts k) (value_of objects arrays k) (leaf_core objects arrays k l)

  kind_half : (objects : List ℕ → Read Elements) (arrays : List ℕ → Read Values) → Half Any O objects → Half Any A arrays → (k : Kind) → Half NotDigit (KindParts k) (value_of objects arrays k)
  kind_half objects arrays o a kind.Object = same_half Any NotDigit (KindParts kind.Object) (KindParts kind.Object) (value_of objects arrays kind.Object) (map_half Free O objects document o) (λ v s l. l) (λ v s l. l) (λ v r h. tt)
  kind_half objects arrays o a kind.Array = same_half Any NotDigit (KindParts kind.Array) (KindParts kind.Array) (value_of objects arrays kind.Array) (map_half Free A arrays array a) (λ v s l. l) (λ v s l. l) (λ v r h. tt)
  kind_half objects arrays o a kind.String = leaf_half objects arrays kind.String tt
  kind_half objects arrays o a kind.Integer = leaf_half objects arrays kind.Integer tt
  kind_half objects arrays o a kind.True = leaf_half objects arrays kind.True tt
  kind_half objects arrays o a kind.False = leaf_half objects arrays kind.False tt
  kind_half objects arrays o a kind.Null = leaf_half objects arrays kind.Null tt
  kind_half objects arrays o a kind.Key = leaf_half objects arrays kind.Key tt
  kind_half objects arrays o a kind.Long = leaf_half objects arrays kind.Long tt
  kind_half objects arrays o a kind.Date = leaf_half objects arrays kind.Date tt
  kind_half objects arrays o a kind.Timestamp = leaf_half objects arrays kind.Timestamp tt
  kind_half objects arrays o a kind.ObjectId = leaf_half objects arrays kind.ObjectId tt
  kind_half objects arrays o a kind.HexData = leaf_half objects arrays kind.HexData tt

  leaf_stops : (objects : List ℕ → Read Elements) (arrays : List ℕ → Read Values) (k : Kind) → IsLeaf k → Stopped (KindParts k) (value_of objects arrays k)
  leaf_stops objects arrays k l text r fine h = inl ((leaf_core objects arrays k l).stops text r fine h)

  kind_stops : (objects : List ℕ → Read Elements) (arrays : List ℕ → Read Values) → Stopped O objects → Stopped A arrays → (k : Kind) → Stopped (KindParts k) (value_of objects arrays k)
  kind_stops objects arrays o a kind.Object = map_stopped O objects document o
  kind_stops objects arrays o a kind.Array = map_stopped A arrays array a
  kind_stops objects arrays o a kind.String = leaf_stops objects arrays kind.String tt
  kind_stops objects arrays o a kind.Integer = leaf_stops objects arrays kind.Integer tt
  kind_stops objects arrays o a kind.True = leaf_stops objects arrays kind.True tt
  kind_stops objects arrays o a kind.False = leaf_stops objects arrays kind.False tt
  kind_stops objects arrays o a kind.Null = leaf_stops objects arrays kind.Null tt
  kind_stops objects arrays o a kind.Key = leaf_stops objects arrays kind.Key tt
  kind_stops objects arrays o a kind.Long = leaf_stops objects arrays kind.Long tt
  kind_stops objects arrays o a kind.Date = leaf_stops objects arrays kind.Date tt
  kind_stops objects arrays o a kind.Timestamp = leaf_stops objects arrays kind.Timestamp tt
  kind_stops objects arrays o a kind.ObjectId = leaf_stops objects arrays kind.ObjectId tt
  kind_stops objects arrays o a kind.HexData = leaf_stops objects arrays kind.HexData tt

-- ---- objects and arrays of so many levels

abbrev pub ObjectOf : ℕ → Elements → List ℕ → Type 0
ObjectOf levels es s = Object es s × (depth es < levels)

abbrev pub ArrayOf : ℕ → Values → List ℕ → Type 0
ArrayOf levels vs s = Array vs s × (values_depth vs < levels)

abbrev pub ValueOf : ℕ → Tree → List ℕ → Type 0
ValueOf levels t s = Value t s × (tree_depth t ≤ levels)

small_fits : (z : ℤ) → is_small z ≡ true → FitsSigned w32 z
small_fits (pos n) h = record { sfits = ltb-true n 0x8000_0000 h }
small_fits (negsuc n) h = record { sfits = ltb-true n 0x8000_0000 h }

fits_small : (z : ℤ) → FitsSigned w32 z → is_small z ≡ true
fits_small (pos n) f = lt-ltb n 0x8000_0000 (omega (arith, f.sfits))
fits_small (negsuc n) f = lt-ltb n 0x8000_0000 (omega (arith, f.sfits))

number_to : (levels : ℕ) (z : ℤ) (s : List ℕ) → Whole z s → ValueOf levels (number z) s
number_to levels z s l =
    elim (cases_Bool (is_small z)) [
      | inl small ↦
          let is : number z ≡ int32 z = rw small refl in
          let v : ValueOf levels (int32 z) s = ((small_fits z small, l.1), omega arith) in
          subst (λ t. ValueOf levels t s) (sym is) v
      | inr big ↦
          let is : number z ≡ int64 z = rw big refl in
          let v : ValueOf levels (int64 z) s = ((l.0, inl ((λ f. both_ways (is_small z) big (fits_small z f)), l.1)), omega arith) in
          subst (λ t. ValueOf levels t s) (sym is) v
    ]

parts_to : (levels : ℕ) (k : Kind) (t : Tree) (s : List ℕ) → KindParts (ObjectOf levels) (ArrayOf levels) k t s → ValueOf levels t s
parts_to levels kind.Object t s l = subst (λ v. ValueOf levels v s) (sym (l.1)) (l.2.0, omega (arith, l.2.1))
parts_to levels kind.Array t s l = subst (λ v. ValueOf levels v s) (sym (l.1)) (l.2.0, omega (arith, l.2.1))
parts_to levels kind.String t s l = subst (λ v. ValueOf levels v s) (sym (l.1)) (l.2.0, omega arith)
parts_to levels kind.Integer t s l = subst (λ v. ValueOf levels v s) (sym (l.1)) (number_to levels l.0 s l.2)
parts_to levels kind.True t s l = subst (λ v. ValueOf levels v s) (sym (l.1)) (l.2, omega arith)
parts_to levels kind.False t s l = subst (λ v. ValueOf levels v s) (sym (l.1)) (l.2, omega arith)
parts_to levels kind.Null t s l = subst (λ v. ValueOf levels v s) (sym (l.1)) (l.2, omega arith)
parts_to levels kind.Key t s (m, (f, r, e, w, inl l)) = subst (λ v. ValueOf levels v s) (sym (l.1)) (rw (e, w, l.2) refl, omega arith)
parts_to levels kind.Key t s (m, (f, r, e, w, inr l)) = subst (λ v. ValueOf levels v s) (sym (l.1)) (rw (e, w, l.2) refl, omega arith)
parts_to levels kind.Long t s (z, e, (o, (f, r, p, op, (y, (g, q, i, whole, (v, same, mark)))))) =
    let is : t ≡ int64 y = e ∙ ap int64 same in
    subst (λ v. ValueOf levels v s) (sym is) ((whole.0, inr (f, r, p, op, (g, q, i, whole.1, mark))), omega arith)
parts_to levels kind.Date t s (z, e, (o, (f, r, p, op, (y, (g, q, i, whole, (v, same, mark)))))) =
    let is : t ≡ date y = e ∙ ap date same in
    subst (λ v. ValueOf levels v s) (sym is) ((whole.0, (f, r, p, op, (g, q, i, whole.1, mark))), omega arith)
parts_to levels kind.Timestamp t s (o, (f, r, p, op, (a, (g, q, i, u, (c, (g2, q2, i2, comma, (sp, (g3, q3, i3, spaces, (b, (g4, q4, i4, w, (v, is, mark))))))))))) =
    subst (λ v. ValueOf levels v s) (sym is) (((omega (arith, u.0), omega (arith, w.0)), (f, r, p, op, (g, q, i, u.1, (g2, q2, i2, comma, (g3, q3, i3, spaces, (g4, q4, i4, w.1, mark)))))), omega arith)
parts_to levels kind.ObjectId t s (o, (f, r, p, op, (b, (g, q, i, id, (v, is, mark))))) =
    subst (λ v. ValueOf levels v s) (sym is) ((id.0, (f, r, p, op, (g, q, i, id.1, mark))), omega arith)
parts_to levels kind.HexData t s (o, (f, r, p, op, (a, (g, q, i, u, (c, (g2, q2, i2, comma, (sp, (g3, q3, i3, spaces, (b, (g4, q4, i4, w, (v, is, mark))))))))))) =
    subst (λ v. ValueOf levels v s) (sym is) ((omega (arith, u.0), (f, r, p, op, (g, q, i, u.1, (g2, q2, i2, comma, (g3, q3, i3, spaces, (g4, q4, i4, w, mark)))))), omega arith)

-- the kind of a value, of which its first byte tells
abbrev Known : ℕ → Tree → List ℕ → Type 0
Known levels t s = (k : Kind) × (b : ℕ) × (tail : List ℕ) × (s ≡ b ∷ tail) × (kind_of b ≡ Some k) × (b ≢ 0x20) × KindParts (ObjectOf levels) (ArrayOf levels) k t s

opened_front : (c : ℕ) (w f r s : List ℕ) → s ≡ f ++ r → Opening (c ∷ w) f → (tail : List ℕ) × (s ≡ c ∷ tail)
opened_front c w f r s e op = (((w ++ op.1) ++ r), e ∙ ap (λ (u : List ℕ). u ++ r) (op.2 ∙ ap (λ (u : List ℕ). u ++ op.1) op.3))

number_known : (levels : ℕ) (z : ℤ) (t : Tree) (s : List ℕ) → t ≡ number z → Whole z s → Known levels t s
number_known levels z t s e l =
    let d = integer_front z s l in
    (kind.Integer, d.0, d.1, d.2, d.3, d.4, (z, e, l))

array_front : (vs : Values) (s : List ℕ) → Array vs s → (tail : List ℕ) × (s ≡ 0x5b ∷ tail)
array_front no_values s l = (l.1, l.2 ∙ ap (λ (u : List ℕ). u ++ l.1) l.3)
array_front (item t vs) s l = (l.1, l.2 ∙ ap (λ (u : List ℕ). u ++ l.1) l.3)

object_front : (es : Elements) (s : List ℕ) → Object es s → (tail : List ℕ) × (s ≡ 0x7b ∷ tail)
object_front no_elements s l = (l.1, l.2 ∙ ap (λ (u : List ℕ). u ++ l.1) l.3)
object_front (element name t es) s l = (l.1, l.2 ∙ ap (λ (u : List ℕ). u ++ l.1) l.3)

known : (levels : ℕ) (t : Tree) (s : List ℕ) → ValueOf levels t s → Known levels t s
known levels min_key s (l, h) = (kind.Key, 0x4d, codes "inKey", l, refl, λ e. omega (arith, e), (tt, (0x4d ∷ [], codes "inKey", l, refl, inr (tt, refl, refl))))
known levels max_key s (l, h) = (kind.Key, 0x4d, codes "axKey", l, refl, λ e. omega (arith, e), (tt, (0x4d ∷ [], codes "axKey", l, refl, inl (tt, refl, refl))))
known levels null s (l, h) = (kind.Null, 0x6e, codes "ull", l, refl, λ e. omega (arith, e), (tt, refl, l))
known levels (boolean true) s (l, h) = (kind.True, 0x74, codes "rue", l, refl, λ e. omega (arith, e), (tt, refl, l))
known levels (boolean false) s (l, h) = (kind.False, 0x66, codes "alse", l, refl, λ e. omega (arith, e), (tt, refl, l))
known levels (int32 z) s (l, h) =
    let whole : Whole z s = (record { sfits = omega (arith, l.0.sfits) }, l.1) in
    let is : number z ≡ int32 z = rw (fits_small z l.0) refl in
    number_known levels z (int32 z) s (sym is) whole
known levels (int64 z) s ((f, inl l), h) =
    let big : is_small z ≡ false = elim (cases_Bool (is_small z)) [ inl small ↦ absurd (l.0 (small_fits z small)) | inr big ↦ big ] in
    let is : number z ≡ int64 z = rw big refl in
    number_known levels z (int64 z) s (sym is) (f, l.1)
known levels (int64 z) s ((f, inr l), h) =
    let o = opened_front 0x4e (codes "umberLong") l.0 l.1 s l.2 l.3 in
    (kind.Long, 0x4e, o.0, o.1, refl, λ e. omega (arith, e), (z, refl, (tt, (l.0, l.1, l.2, l.3, (z, (l.4.0, l.4.1, l.4.2, (f, l.4.3), (tt, refl, l.4.4)))))))
known levels (date z) s ((f, l), h) =
    let o = opened_front 0x44 (codes "ate") l.0 l.1 s l.2 l.3 in
    (kind.Date, 0x44, o.0, o.1, refl, λ e. omega (arith, e), (z, refl, (tt, (l.0, l.1, l.2, l.3, (z, (l.4.0, l.4.1, l.4.2, (f, l.4.3), (tt, refl, l.4.4)))))))
known levels (timestamp a b) s ((f, l), h) =
    let o = opened_front 0x54 (codes "imestamp") l.0 l.1 s l.2 l.3 in
    let m = l.4.4 in
    let n = m.4 in (
      kind.Timestamp,
      0x54,
      o.0,
      o.1,
      refl,
      λ e. omega (arith, e),
      (tt, (l.0, l.1, l.2, l.3, (a, (l.4.0, l.4.1, l.4.2, (omega (arith, f.0), l.4.3), (tt, (m.0, m.1, m.2, m.3, (tt, (n.0, n.1, n.2, n.3, (b, (n.4.0, n.4.1, n.4.2, (omega (arith, f.1), n.4.3), (tt, refl, n.4.4))))))))))),
    )
known levels (object_id bytes) s ((f, l), h) =
    let o = opened_front 0x4f (codes "bjectId") l.0 l.1 s l.2 l.3 in
    (kind.ObjectId, 0x4f, o.0, o.1, refl, λ e. omega (arith, e), (tt, (l.0, l.1, l.2, l.3, (bytes, (l.4.0, l.4.1, l.4.2, (f, l.4.3), (tt, refl, l.4.4))))))
known levels (binary k bytes) s ((f, l), h) =
    let o = opened_front 0x48 (codes "exData") l.0 l.1 s l.2 l.3 in
    let m = l.4.4 in
    let n = m.4 in (
      kind.HexData,
      0x48,
      o.0,
      o.1,
      refl,
      λ e. omega (arith, e),
      (tt, (l.0, l.1, l.2, l.3, (k, (l.4.0, l.4.1, l.4.2, (omega (arith, f), l.4.3), (tt, (m.0, m.1, m.2, m.3, (tt, (n.0, n.1, n.2, n.3, (bytes, (n.4.0, n.4.1, n.4.2, n.4.3, (tt, refl, n.4.4))))))))))),
    )
known levels (string bytes) s (l, h) =
    let q = l.1 in
    (kind.String, 0x22, q.1, q.2 ∙ ap (λ (u : List ℕ). u ++ q.1) q.3, refl, λ e. omega (arith, e), (bytes, refl, (l, λ off. absurd (false≢true off))))
known levels (array vs) s (l, h) =
    let o = array_front vs s l in
    (kind.Array, 0x5b, o.0, o.1, refl, λ e. omega (arith, e), (vs, refl, (l, omega (arith, h))))
known levels (document es) s (l, h) =
    let o = object_front es s l in
    (kind.Object, 0x7b, o.0, o.1, refl, λ e. omega (arith, e), (es, refl, (l, omega (arith, h))))

kind_stands_or : (text : List ℕ) (o : Option Kind) (r : List ℕ) → kind_or text o ≡ Err r → text ≡ r
kind_stands_or text None r h = cc
kind_stands_or text (Some k) r h = absurd cc

kind_is : (b : ℕ) (text : List ℕ) (k : Kind) → kind_of b ≡ Some k → kind_at (b ∷ text) ≡ Ok k
kind_is b text k h = rw h refl

chain : {A B : Type 0} (read : Result A (List ℕ)) (f : A → Result B (List ℕ)) (x : A) (y : Result B (List ℕ)) → read ≡ Ok x → f x ≡ y → (read >>= f) ≡ y
chain read f x y h e = rw (h) e

kind_stands : (text r : List ℕ) → kind_at text ≡ Err r → (p : List ℕ) × (text ≡ p ++ r)
kind_stands [] r h = ([], cc)
kind_stands (b ∷ text) r h = ([], kind_stands_or (b ∷ text) (kind_of b) r h)

kind_moved : (levels : ℕ) → Half Any (ObjectOf levels) (object_at levels) → Half Any (ArrayOf levels) (array_at levels) → (p : List ℕ) (c : ℕ) (x y all all2 : List ℕ) (k : Option Kind)
    → all ≡ p ++ c ∷ x → all2 ≡ p ++ c ∷ y
    → Moved (c ∷ x) (c ∷ y) (kind_or all k >>= λ k. value_of (object_at levels) (array_at levels) k all) (kind_or all2 k >>= λ k. value_of (object_at levels) (array_at levels) k all2)
kind_moved levels o a p c x y all all2 None e f = rw (e, f) (moved_err p (c ∷ x) (c ∷ y))
kind_moved levels o a p c x y all all2 (Some k) e f = rw (e, f) ((kind_half (ObjectOf levels) (ArrayOf levels) (object_at levels) (array_at levels) o a k).moves p c x y)

value_moves : (levels : ℕ) → Half Any (ObjectOf levels) (object_at levels) → Half Any (ArrayOf levels) (array_at levels) → (p : List ℕ) (c : ℕ) (x y : List ℕ)
    → Moved (c ∷ x) (c ∷ y) (value_at levels (p ++ c ∷ x)) (value_at levels (p ++ c ∷ y))
unfolding value_in
value_moves levels o a [] c x y = kind_moved levels o a [] c x y (c ∷ x) (c ∷ y) (kind_of c) refl refl
value_moves levels o a (d ∷ p) c x y = kind_moved levels o a (d ∷ p) c x y (d ∷ (p ++ c ∷ x)) (d ∷ (p ++ c ∷ y)) (kind_of d) refl refl

kind_none : (text r : List ℕ) → kind_at text ≡ Err r → text ≡ r
kind_none [] r h = cc
kind_none (b ∷ text) r h = kind_stands_or (b ∷ text) (kind_of b) r h

-- where nothing is read a value may stand, of any number of levels
null_behind : (levels : ℕ) (text r : List ℕ) → text ≡ r → Completed (ValueOf levels) text r
null_behind levels text r e = ([], codes "null", null, e, (refl, omega arith))

value_stops : (levels : ℕ) → Stopped (ObjectOf levels) (object_at levels) → Stopped (ArrayOf levels) (array_at levels) → (text r : List ℕ) → Fine text → value_at levels text ≡ Err r → Completed (ValueOf levels) text r
unfolding value_in
value_stops levels inner_objects inner_arrays text r fine h =
    elim (bind_err (kind_at text) (λ k. value_of (object_at levels) (array_at levels) k text) r h) [
      | inl e ↦ null_behind levels text r (kind_none text r e)
      | inr b ↦
          elim (kind_stops (ObjectOf levels) (ArrayOf levels) (object_at levels) (array_at levels) inner_objects inner_arrays b.0 text r fine b.2) [
            | inl t ↦ (t.0, t.1, t.2, t.3, parts_to levels b.0 t.2 (t.0 ++ t.1) t.4)
            | inr same ↦ null_behind levels text r same
          ]
    ]

pub value_core : (levels : ℕ) → Half Any (ObjectOf levels) (object_at levels) → Half Any (ArrayOf levels) (array_at levels) → Stopped (ObjectOf levels) (object_at levels) → Stopped (ArrayOf levels) (array_at levels)
    → Core NotDigit (ValueOf levels) (value_at levels)
unfolding value_in
value_core levels o a inner_objects inner_arrays = record {
  takes = λ text t r h.
      let b = bind_ok (kind_at text) (λ k. value_of (object_at levels) (array_at levels) k text) (t, r) h in
      let x = (kind_half (ObjectOf levels) (ArrayOf levels) (object_at levels) (array_at levels) o a b.0).takes text t r b.2 in
      (x.0, x.1, parts_to levels b.0 t x.0 x.2);
  again = λ t s r l h.
      let n = known levels t s l in
      let read : value_of (object_at levels) (array_at levels) n.0 (s ++ r) ≡ Ok (t, r) = (kind_half (ObjectOf levels) (ArrayOf levels) (object_at levels) (array_at levels) o a n.0).again t s r n.6 h in
      let kinds : kind_at (s ++ r) ≡ Ok n.0 = ap (λ (u : List ℕ). kind_at (u ++ r)) n.3 ∙ kind_is n.1 (n.2 ++ r) n.0 n.4 in
      chain (kind_at (s ++ r)) (λ k. value_of (object_at levels) (array_at levels) k (s ++ r)) n.0 (Ok (t, r)) kinds read;
  stands = λ text r h.
      elim (bind_err (kind_at text) (λ k. value_of (object_at levels) (array_at levels) k text) r h) [
        | inl e ↦ kind_stands text r e
        | inr b ↦ (kind_half (ObjectOf levels) (ArrayOf levels) (object_at levels) (array_at levels) o a b.0).stands text r b.2
      ];
  moves = value_moves levels o a;
  stops = value_stops levels inner_objects inner_arrays;
}

pub value_spaceless : (levels : ℕ) (t : Tree) (s r : List ℕ) → ValueOf levels t s → Spaceless (s ++ r)
value_spaceless levels t s r l =
    let n = known levels t s l in
    subst Spaceless (sym (ap (λ (u : List ℕ). u ++ r) n.3)) n.5

-- no value begins as an array ends
pub value_front : (levels : ℕ) (t : Tree) (s : List ℕ) → ValueOf levels t s → (b : ℕ) × (tail : List ℕ) × (s ≡ b ∷ tail) × (b ≢ 0x5d)
value_front levels t s l =
    let n = known levels t s l in
    (n.1, n.2, n.3, λ e. absurd (cc (ap kind_of (sym e) ∙ n.4)))
