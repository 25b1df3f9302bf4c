-- The notation of documents: which texts stand for which document. A text is its bytes, of UTF-8.
use Rattle.std.specs.Prelude.{◌≡◌, ◌≢◌, ℕ, zero, suc, ◌+◌, ◌*◌, ◌^◌, ◌<◌, ◌≤◌, ◌==◌, ◌⊎◌, ℤ, pos, negsuc, true, false, List, [], ◌∷◌, ◌++◌, length, replicate, codes, Option, Some, None, if◌then◌else◌}
use Rattle.std.specs.Int.{w32, w64}
use Rattle.std.specs.Int.RustNames.{FitsSigned}
use Rattle.std.specs.Fmt.{decimal}
use Rattle.std.specs.Str.{is_utf8}
use Rattle.std.specs.List.{concat}
use Rattle.std.specs.Char.{encode_utf8}
use Rattle.std.specs.Char.Utf16.{is_high_surrogate, is_low_surrogate, surrogate_pair_char}
use Rattle.hex.specs.Hex.{hex_digit_value}
use Rattle.mm_bson.specs.Tree.{Tree, min_key, null, int32, int64, string, document, array, binary, object_id, boolean, date, timestamp, max_key, Elements, no_elements, element, Values, no_values, item, depth}
use Rattle.mm_bson.specs.Spelling.{HasNoZero}

-- ---- languages: a language says which texts are in it

-- the texts of P, each followed by one of Q
infixr 60 ◌·◌
abbrev pub ◌·◌ : (List ℕ → Type 0) → (List ℕ → Type 0) → List ℕ → Type 0
(P · Q) text = (front : List ℕ) × (rest : List ℕ) × (text ≡ front ++ rest) × P front × Q rest

-- the texts of P where a condition holds
abbrev pub Where : Type 0 → (List ℕ → Type 0) → List ℕ → Type 0
Where condition P text = condition × P text

-- the texts of both languages
abbrev pub Either : (List ℕ → Type 0) → (List ℕ → Type 0) → List ℕ → Type 0
Either P Q text = P text ⊎ Q text

-- exactly these bytes
abbrev pub Word : List ℕ → List ℕ → Type 0
Word word text = text ≡ word

abbrev pub Spaces : List ℕ → Type 0
Spaces text = (n : ℕ) × (text ≡ replicate n 0x20)

-- one byte, behind any number of spaces
abbrev pub Mark : ℕ → List ℕ → Type 0
Mark byte = Spaces · Word (byte ∷ [])

-- ---- integers

abbrev pub negated : ℕ → ℤ
negated zero = pos 0
negated (suc n) = negsuc n

-- `-` is optional. The digits have no leading zero, so they are those of decimal.
abbrev pub Integer : ℤ → List ℕ → Type 0
Integer z text = (n : ℕ) × (((z ≡ pos n) × (text ≡ decimal n)) ⊎ ((z ≡ negated n) × (text ≡ 0x2d ∷ decimal n)))

-- ---- strings

abbrev pub Quoted : (List ℕ → Type 0) → List ℕ → Type 0
Quoted P = Word (0x22 ∷ []) · P · Word (0x22 ∷ [])

-- the texts of P x for each x of a list, one after the other
abbrev pub Each : {X : Type 0} → (X → List ℕ → Type 0) → List X → List ℕ → Type 0
Each P [] = Word []
Each P (x ∷ xs) = P x · Each P xs

-- one hex digit, in either case
abbrev pub HexDigit : ℕ → List ℕ → Type 0
HexDigit d text = (c : ℕ) × (hex_digit_value c ≡ Some d) × Word (c ∷ []) text

-- two hex digits of a byte, in either case
abbrev pub HexPair : ℕ → List ℕ → Type 0
HexPair byte text = (high : ℕ) × (low : ℕ) × (h : ℕ) × (l : ℕ)
    × (hex_digit_value high ≡ Some h) × (hex_digit_value low ≡ Some l) × (byte ≡ h * 16 + l) × Word (high ∷ low ∷ []) text

abbrev pub HexDigits : List ℕ → List ℕ → Type 0
HexDigits bytes = Each HexPair bytes

-- the byte for which a letter stands behind `\`: `"` `\` `/` `b` `f` `n` `r` `t`
abbrev pub escaped : ℕ → Option ℕ
escaped letter =
    if letter == 0x22 then Some 0x22
    else (if letter == 0x5c then Some 0x5c
    else (if letter == 0x2f then Some 0x2f
    else (if letter == 0x62 then Some 0x08
    else (if letter == 0x66 then Some 0x0c
    else (if letter == 0x6e then Some 0x0a
    else (if letter == 0x72 then Some 0x0d
    else (if letter == 0x74 then Some 0x09 else None)))))))

-- the four hex digits of a unit of UTF-16
abbrev pub Digits16 : ℕ → List ℕ → Type 0
Digits16 u text = (a : ℕ) × (b : ℕ) × (c : ℕ) × (d : ℕ) × (u ≡ (a * 16 + b) * 256 + (c * 16 + d)) × (HexDigit a · HexDigit b · HexDigit c · HexDigit d) text

-- A letter, a character's unit behind `\u`, or the two surrogates of one character. A lone surrogate is no character.
-- What stands behind `\`.
abbrev pub Escape : List ℕ → List ℕ → Type 0
Escape bytes text =
    ((letter : ℕ) × (byte : ℕ) × (escaped letter ≡ Some byte) × (bytes ≡ byte ∷ []) × Word (letter ∷ []) text)
    ⊎ (((u : ℕ) × (is_high_surrogate u ≡ false) × (is_low_surrogate u ≡ false) × (bytes ≡ encode_utf8 u) × (Word (0x75 ∷ []) · Digits16 u) text)
    ⊎ ((high : ℕ) × (low : ℕ) × (is_high_surrogate high ≡ true) × (is_low_surrogate low ≡ true) × (bytes ≡ encode_utf8 (surrogate_pair_char high low))
    × (Word (0x75 ∷ []) · Digits16 high · Word (0x5c ∷ 0x75 ∷ []) · Digits16 low) text))

-- a byte that stands for itself, from 0x20 on and neither `"` nor `\`, or `\` and an escape
abbrev pub Piece : List ℕ → List ℕ → Type 0
Piece bytes text = ((byte : ℕ) × (0x20 ≤ byte) × (byte ≢ 0x22) × (byte ≢ 0x5c) × (bytes ≡ byte ∷ []) × Word (byte ∷ []) text) ⊎ (Word (0x5c ∷ []) · Escape bytes) text

abbrev pub Inside : List ℕ → List ℕ → Type 0
Inside bytes text = (pieces : List (List ℕ)) × (bytes ≡ concat pieces) × Each Piece pieces text

abbrev pub String : List ℕ → List ℕ → Type 0
String bytes = Where (is_utf8 bytes ≡ true) (Quoted (Inside bytes))

abbrev pub Name : List ℕ → List ℕ → Type 0
Name name = Where (HasNoZero name) (String name)

-- ---- values

-- a word and `(`
abbrev pub Opening : List ℕ → List ℕ → Type 0
Opening word = Word word · Mark 0x28 · Spaces

abbrev mutual
  pub Value : Tree → List ℕ → Type 0
  Value min_key = Word (codes "MinKey")
  Value max_key = Word (codes "MaxKey")
  Value null = Word (codes "null")
  Value (boolean true) = Word (codes "true")
  Value (boolean false) = Word (codes "false")
  Value (int32 z) = Where (FitsSigned w32 z) (Integer z)
  Value (int64 z) = Where (FitsSigned w64 z) (Either (Where (FitsSigned w32 z → ⊥) (Integer z)) (Opening (codes "NumberLong") · Integer z · Mark 0x29))
  Value (date z) = Where (FitsSigned w64 z) (Opening (codes "Date") · Integer z · Mark 0x29)
  Value (timestamp s i) = Where ((s < 2 ^ 32) × (i < 2 ^ 32)) (Opening (codes "Timestamp") · Integer (pos s) · Mark 0x2c · Spaces · Integer (pos i) · Mark 0x29)
  Value (object_id bytes) = Where (length bytes ≡ 12) (Opening (codes "ObjectId") · Quoted (HexDigits bytes) · Mark 0x29)
  Value (binary k bytes) = Where (k < 256) (Opening (codes "HexData") · Integer (pos k) · Mark 0x2c · Spaces · Quoted (HexDigits bytes) · Mark 0x29)
  Value (string bytes) = String bytes
  Value (array vs) = Array vs
  Value (document es) = Object es

  -- `[`, values parted by `,`, and `]`
  pub Array : Values → List ℕ → Type 0
  Array no_values = Word (0x5b ∷ []) · Mark 0x5d
  Array (item t vs) = Word (0x5b ∷ []) · Spaces · Value t · MoreValues vs

  pub MoreValues : Values → List ℕ → Type 0
  MoreValues no_values = Mark 0x5d
  MoreValues (item t vs) = (Mark 0x2c · Spaces · Value t) · MoreValues vs

  -- `{`, members `"name": value` parted by `,`, and `}`
  pub Object : Elements → List ℕ → Type 0
  Object no_elements = Word (0x7b ∷ []) · Mark 0x7d
  Object (element name t es) = Word (0x7b ∷ []) · Spaces · (Name name · Mark 0x3a · Spaces · Value t) · MoreMembers es

  pub MoreMembers : Elements → List ℕ → Type 0
  MoreMembers no_elements = Mark 0x7d
  MoreMembers (element name t es) = (Mark 0x2c · Spaces · Name name · Mark 0x3a · Spaces · Value t) · MoreMembers es

-- A document's text: that of an object of at most 100 levels, the whole object being the first.
abbrev pub IsDocumentText : Elements → List ℕ → Type 0
IsDocumentText es = Where (depth es < 100) (Object es)

-- the bytes can still become a document's text
abbrev pub BeginsDocument : List ℕ → Type 0
BeginsDocument text = (more : List ℕ) × (es : Elements) × IsDocumentText es (text ++ more)
