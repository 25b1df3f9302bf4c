-- The written form is one of the texts of its document.
use Rattle.std.proofs.Common.{◌≡◌, ℕ, suc, ◌+◌, ◌*◌, ◌/◌, ◌%◌, ◌<◌, ◌==◌, ◌||◌, inl, inr, true, false, List, [], ◌∷◌, ◌++◌, slice_index, Some, append_assoc, refl, sym, ap, subst, arith, pos}
use Rattle.std.specs.Prelude.{nat_le, nat_lt, ℤ, negsuc, codes, flat_map}
use Rattle.std.specs.List.{concat}
use Rattle.std.specs.Int.{w32, w64}
use Rattle.std.specs.Int.RustNames.{FitsSigned}
use Rattle.std.specs.Fmt.{decimal, signed_decimal}
use Rattle.std.specs.Str.{is_utf8}
use Rattle.std.specs.Char.Utf16.{is_high_surrogate, is_low_surrogate}
use Rattle.std.proofs.lemmas.Bool.{eqb-true, eqb-false, or_cases, or_parts, ltb-true, ltb-false, lt-ltb, lt-leb, and_left, cases_Bool, both_ways}
use Rattle.std.proofs.lemmas.Str.{encode_ascii}
use Rattle.hex.specs.Hex.{encode_lower, encode_with, lower_digits, IsBytes}
use Rattle.hex.proofs.HexLemmas.{IsDigits-lower_digits}
use Rattle.mm_bson.specs.Tree.{Tree, min_key, null, int32, int64, string, document, array, binary, object_id, boolean, date, timestamp, max_key, Elements, no_elements, element, Values, no_values, item, depth}
use Rattle.mm_bson.specs.Spelling.{IsValue, AreElements, AreValues}
use Rattle.mm_notation.specs.Grammar.{◌·◌, Mark, Integer, Quoted, Each, HexDigits, Digits16, escaped, Piece, Inside, String, Opening, Value, Array, MoreValues, Object, MoreMembers, IsDocumentText}
use Rattle.mm_notation.specs.Written.{written_byte, written_string, written_hex, is_small, written_value, written_array, more_values, written, more_members, HoldsBytes, AllHoldBytes, EachHoldsBytes}

mark_form : (b : ℕ) → Mark b (b ∷ [])
mark_form b = ([], b ∷ [], refl, (0, refl), refl)

opening_form : (w : List ℕ) → Opening w (w ++ 0x28 ∷ [])
opening_form w = (w, 0x28 ∷ [], refl, refl, (0x28 ∷ [], [], refl, mark_form 0x28, (0, refl)))

integer_form : (z : ℤ) → Integer z (signed_decimal z)
integer_form (pos n) = (n, inl (refl, refl))
integer_form (negsuc n) = (suc n, inr (refl, refl))

call_form : (w : List ℕ) (z : ℤ) → (Opening w · Integer z · Mark 0x29) ((w ++ 0x28 ∷ []) ++ (signed_decimal z ++ 0x29 ∷ []))
call_form w z = (w ++ 0x28 ∷ [], signed_decimal z ++ 0x29 ∷ [], refl, opening_form w, (signed_decimal z, 0x29 ∷ [], refl, integer_form z, mark_form 0x29))

-- ---- hex digits

digits_form : (bytes : List ℕ) → IsBytes bytes → HexDigits bytes (encode_lower bytes)
unfolding encode_with
digits_form [] h = refl
digits_form (b ∷ bytes) h =
    let small : b < 256 = h 0 in
    let c : ℕ = slice_index lower_digits (b / 16) in
    let d : ℕ = slice_index lower_digits (b % 16) in
    let whole : b ≡ (b / 16) * 16 + b % 16 = omega arith in
    (c ∷ d ∷ [], encode_lower bytes, refl, (c, d, b / 16, b % 16, IsDigits-lower_digits (b / 16) (omega arith), IsDigits-lower_digits (b % 16) (omega arith), whole, refl), digits_form bytes (λ i. h (suc i)))

hex_form : (bytes : List ℕ) → IsBytes bytes → Quoted (HexDigits bytes) (written_hex bytes)
hex_form bytes h = (0x22 ∷ [], encode_lower bytes ++ 0x22 ∷ [], refl, refl, (encode_lower bytes, 0x22 ∷ [], refl, digits_form bytes h, refl))

-- ---- strings

small_form : (b : ℕ) → b < 0x20 → Piece (b ∷ []) (codes "\\u00" ++ encode_lower (b ∷ []))
unfolding encode_with
small_form b h =
    let c : ℕ = slice_index lower_digits (b / 16) in
    let d : ℕ = slice_index lower_digits (b % 16) in
    let high : is_high_surrogate b ≡ false = and_left (nat_le 0xD800 b) (nat_lt b 0xDC00) (lt-leb 0xD800 b (omega arith)) in
    let low : is_low_surrogate b ≡ false = and_left (nat_le 0xDC00 b) (nat_lt b 0xE000) (lt-leb 0xDC00 b (omega arith)) in
    let whole : b ≡ (0 * 16 + 0) * 256 + ((b / 16) * 16 + b % 16) = omega arith in
    let digits : Digits16 b (48 ∷ 48 ∷ c ∷ d ∷ []) = (
      0,
      0,
      b / 16,
      b % 16,
      whole,
      (
        48 ∷ [],
        48 ∷ c ∷ d ∷ [],
        refl,
        (48, refl, refl),
        (
          48 ∷ [],
          c ∷ d ∷ [],
          refl,
          (48, refl, refl),
          (
            c ∷ [],
            d ∷ [],
            refl,
            (c, IsDigits-lower_digits (b / 16) (omega arith), refl),
            (d, IsDigits-lower_digits (b % 16) (omega arith), refl),
          ),
        ),
      ),
    ) in
    inr (0x5c ∷ [], 0x75 ∷ 48 ∷ 48 ∷ c ∷ d ∷ [], refl, refl, inr (inl (b, high, low, sym (encode_ascii b (omega arith)), (0x75 ∷ [], 48 ∷ 48 ∷ c ∷ d ∷ [], refl, refl, digits))))

escaped_form : (b : ℕ) → escaped b ≡ Some b → Piece (b ∷ []) (0x5c ∷ b ∷ [])
escaped_form b h = inr (0x5c ∷ [], b ∷ [], refl, refl, inl (b, b, h, refl, refl))

byte_form : (b : ℕ) → Piece (b ∷ []) (written_byte b)
byte_form b =
    elim (cases_Bool (b == 0x22 || b == 0x5c)) [
      | inl hit ↦
          let is : written_byte b ≡ 0x5c ∷ b ∷ [] = rw hit refl in
          let self : escaped b ≡ Some b = elim (or_cases (b == 0x22) (b == 0x5c) hit) [
            | inl quote ↦ rw (eqb-true b 0x22 quote) refl
            | inr slash ↦ rw (eqb-true b 0x5c slash) refl
          ] in
          subst (Piece (b ∷ [])) (sym is) (escaped_form b self)
      | inr miss ↦
          elim (cases_Bool (nat_lt b 0x20)) [
            | inl small ↦
                let is : written_byte b ≡ codes "\\u00" ++ encode_lower (b ∷ []) = rw (miss, small) refl in
                subst (Piece (b ∷ [])) (sym is) (small_form b (ltb-true b 0x20 small))
            | inr big ↦
                let is : written_byte b ≡ b ∷ [] = rw (miss, big) refl in
                let apart = or_parts (b == 0x22) (b == 0x5c) miss in
                let plain : Piece (b ∷ []) (b ∷ []) = inl (b, ltb-false b 0x20 big, eqb-false b 0x22 apart.0, eqb-false b 0x5c apart.1, refl, refl) in
                subst (Piece (b ∷ [])) (sym is) plain
          ]
    ]

singles : List ℕ → List (List ℕ)
singles [] = []
singles (b ∷ bytes) = (b ∷ []) ∷ singles bytes

singles_are : (bytes : List ℕ) → bytes ≡ concat (singles bytes)
unfolding singles
singles_are [] = refl
singles_are (b ∷ bytes) = ap (λ (u : List ℕ). b ∷ u) (singles_are bytes)

pieces_form : (bytes : List ℕ) → Each Piece (singles bytes) (flat_map written_byte bytes)
unfolding singles
pieces_form [] = refl
pieces_form (b ∷ bytes) = (written_byte b, flat_map written_byte bytes, refl, byte_form b, pieces_form bytes)

string_form : (bytes : List ℕ) → is_utf8 bytes ≡ true → String bytes (written_string bytes)
string_form bytes h =
    let inside : Inside bytes (flat_map written_byte bytes) = (singles bytes, singles_are bytes, pieces_form bytes) in
    (h, (0x22 ∷ [], flat_map written_byte bytes ++ 0x22 ∷ [], refl, refl, (flat_map written_byte bytes, 0x22 ∷ [], refl, inside, refl)))

-- ---- values

small_from : (z : ℤ) → FitsSigned w32 z → is_small z ≡ true
small_from (pos n) f = lt-ltb n 0x8000_0000 (omega (arith, f.sfits))
small_from (negsuc n) f = lt-ltb n 0x8000_0000 (omega (arith, f.sfits))

int64_form : (z : ℤ) → FitsSigned w64 z → Value (int64 z) (written_value (int64 z))
int64_form z f =
    elim (cases_Bool (is_small z)) [
      | inl small ↦
          let is : written_value (int64 z) ≡ codes "NumberLong(" ++ (signed_decimal z ++ codes ")") = rw small refl in
          let v : Value (int64 z) (codes "NumberLong(" ++ (signed_decimal z ++ codes ")")) = (f, inr (call_form (codes "NumberLong") z)) in
          subst (Value (int64 z)) (sym is) v
      | inr big ↦
          let is : written_value (int64 z) ≡ signed_decimal z = rw big refl in
          let v : Value (int64 z) (signed_decimal z) = (f, inl ((λ g. both_ways (is_small z) big (small_from z g)), integer_form z)) in
          subst (Value (int64 z)) (sym is) v
    ]

mutual
  value_form : (t : Tree) → IsValue t → HoldsBytes t → Value t (written_value t)
  value_form min_key v b = refl
  value_form max_key v b = refl
  value_form null v b = refl
  value_form (boolean true) v b = refl
  value_form (boolean false) v b = refl
  value_form (int32 z) v b = (v, integer_form z)
  value_form (int64 z) v b = int64_form z v
  value_form (date z) v b = (v, call_form (codes "Date") z)
  value_form (timestamp s i) v b = (
    v,
    (
      codes "Timestamp(",
      decimal s ++ (codes ", " ++ (decimal i ++ codes ")")),
      refl,
      opening_form (codes "Timestamp"),
      (
        decimal s,
        codes ", " ++ (decimal i ++ codes ")"),
        refl,
        (s, inl (refl, refl)),
        (0x2c ∷ [], 0x20 ∷ (decimal i ++ codes ")"), refl, mark_form 0x2c, (0x20 ∷ [], decimal i ++ codes ")", refl, (1, refl), (decimal i, codes ")", refl, (i, inl (refl, refl)), mark_form 0x29))),
      ),
    ),
  )
  value_form (object_id bytes) v b = (v, (codes "ObjectId(", written_hex bytes ++ codes ")", refl, opening_form (codes "ObjectId"), (written_hex bytes, codes ")", refl, hex_form bytes b, mark_form 0x29)))
  value_form (binary k bytes) v b = (
    v,
    (
      codes "HexData(",
      decimal k ++ (codes ", " ++ (written_hex bytes ++ codes ")")),
      refl,
      opening_form (codes "HexData"),
      (
        decimal k,
        codes ", " ++ (written_hex bytes ++ codes ")"),
        refl,
        (k, inl (refl, refl)),
        (0x2c ∷ [], 0x20 ∷ (written_hex bytes ++ codes ")"), refl, mark_form 0x2c, (0x20 ∷ [], written_hex bytes ++ codes ")", refl, (1, refl), (written_hex bytes, codes ")", refl, hex_form bytes b, mark_form 0x29))),
      ),
    ),
  )
  value_form (string s) v b = string_form s v
  value_form (array vs) v b = array_form vs v b
  value_form (document es) v b = object_form es v b

  array_form : (vs : Values) → AreValues vs → EachHoldsBytes vs → Array vs (written_array vs)
  array_form no_values v b = (0x5b ∷ [], 0x5d ∷ [], refl, refl, mark_form 0x5d)
  array_form (item t vs) v b = (0x5b ∷ [], written_value t ++ more_values vs, refl, refl, ([], written_value t ++ more_values vs, refl, (0, refl), (written_value t, more_values vs, refl, value_form t v.0 b.0, more_values_form vs v.1 b.1)))

  more_values_form : (vs : Values) → AreValues vs → EachHoldsBytes vs → MoreValues vs (more_values vs)
  more_values_form no_values v b = mark_form 0x5d
  more_values_form (item t vs) v b =
      (0x2c ∷ 0x20 ∷ written_value t, more_values vs, refl, (0x2c ∷ [], 0x20 ∷ written_value t, refl, mark_form 0x2c, (0x20 ∷ [], written_value t, refl, (1, refl), value_form t v.0 b.0)), more_values_form vs v.1 b.1)

  object_form : (es : Elements) → AreElements es → AllHoldBytes es → Object es (written es)
  object_form no_elements v b = (0x7b ∷ [], 0x7d ∷ [], refl, refl, mark_form 0x7d)
  object_form (element name t es) v b =
      let member : List ℕ = written_string name ++ (codes ": " ++ written_value t) in
      let parts : written_string name ++ (codes ": " ++ (written_value t ++ more_members es)) ≡ member ++ more_members es = sym (append_assoc (written_string name) (codes ": " ++ written_value t) (more_members es)) in (
        0x7b ∷ [],
        written_string name ++ (codes ": " ++ (written_value t ++ more_members es)),
        refl,
        refl,
        (
          [],
          written_string name ++ (codes ": " ++ (written_value t ++ more_members es)),
          refl,
          (0, refl),
          (
            member,
            more_members es,
            parts,
            (written_string name, codes ": " ++ written_value t, refl, (v.0.1, string_form name v.0.0), (0x3a ∷ [], 0x20 ∷ written_value t, refl, mark_form 0x3a, (0x20 ∷ [], written_value t, refl, (1, refl), value_form t v.1 b.0))),
            more_members_form es v.2 b.1,
          ),
        ),
      )

  more_members_form : (es : Elements) → AreElements es → AllHoldBytes es → MoreMembers es (more_members es)
  more_members_form no_elements v b = mark_form 0x7d
  more_members_form (element name t es) v b =
      let member : List ℕ = written_string name ++ (codes ": " ++ written_value t) in
      let parts : written_string name ++ (codes ": " ++ (written_value t ++ more_members es)) ≡ member ++ more_members es = sym (append_assoc (written_string name) (codes ": " ++ written_value t) (more_members es)) in (
        0x2c ∷ 0x20 ∷ member,
        more_members es,
        ap (λ (u : List ℕ). 0x2c ∷ 0x20 ∷ u) parts,
        (
          0x2c ∷ [],
          0x20 ∷ member,
          refl,
          mark_form 0x2c,
          (
            0x20 ∷ [],
            member,
            refl,
            (1, refl),
            (written_string name, codes ": " ++ written_value t, refl, (v.0.1, string_form name v.0.0), (0x3a ∷ [], 0x20 ∷ written_value t, refl, mark_form 0x3a, (0x20 ∷ [], written_value t, refl, (1, refl), value_form t v.1 b.0))),
          ),
        ),
        more_members_form es v.2 b.1,
      )

pub document_form : (es : Elements) → AreElements es → AllHoldBytes es → depth es < 100 → IsDocumentText es (written es)
document_form es v b deep = (deep, object_form es v b)
