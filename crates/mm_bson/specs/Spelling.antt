-- Which documents there are, and the one spelling of each (BSON 1.0 of bsonspec.org: document, e_list, element, e_name, string, binary).
use Rattle.std.specs.Prelude.{◌≡◌, ◌≢◌, ℕ, ◌+◌, ◌^◌, ◌<◌, ◌≤◌, true, if◌then◌else◌, List, [], ◌∷◌, ◌++◌, length}
use Rattle.std.specs.Int.{w32, w64, to_le_bytes, cast_unsigned}
use Rattle.std.specs.Str.{is_utf8}
use Rattle.std.specs.Fmt.{decimal}
use Rattle.std.specs.Int.RustNames.{FitsSigned}
use Rattle.mm_bson.specs.Tree.{Tree, min_key, null, int32, int64, string, document, array, binary, object_id, boolean, date, timestamp, max_key, Elements, no_elements, element, Values, no_values, item, depth}

abbrev pub type_byte : Tree → ℕ
type_byte (string s) = 0x02
type_byte (document es) = 0x03
type_byte (array vs) = 0x04
type_byte (binary k bytes) = 0x05
type_byte (object_id bytes) = 0x07
type_byte (boolean b) = 0x08
type_byte (date z) = 0x09
type_byte null = 0x0a
type_byte (int32 z) = 0x10
type_byte (timestamp s i) = 0x11
type_byte (int64 z) = 0x12
type_byte max_key = 0x7f
type_byte min_key = 0xff

-- a document's length counts itself, the elements and the final 00
unfoldable pub framed : List ℕ → List ℕ
framed inner = to_le_bytes w32 (length inner + 5) ++ (inner ++ 0 ∷ [])

-- a text behind its length, which counts the final 00
unfoldable pub text_spelling : List ℕ → List ℕ
text_spelling s = to_le_bytes w32 (length s + 1) ++ (s ++ 0 ∷ [])

abbrev mutual
  pub value_spelling : Tree → List ℕ
  value_spelling (int32 z) = to_le_bytes w32 (cast_unsigned w32 z)
  value_spelling (int64 z) = to_le_bytes w64 (cast_unsigned w64 z)
  value_spelling (string s) = text_spelling s
  value_spelling (document es) = framed (elements_spelling es)
  value_spelling (array vs) = framed (values_spelling 0 vs)
  value_spelling (binary k bytes) = to_le_bytes w32 (length bytes) ++ (k ∷ bytes)
  value_spelling (object_id bytes) = bytes
  value_spelling (boolean b) = (if b then 1 else 0) ∷ []
  value_spelling (date z) = to_le_bytes w64 (cast_unsigned w64 z)
  value_spelling (timestamp s i) = to_le_bytes w32 i ++ to_le_bytes w32 s
  value_spelling min_key = []
  value_spelling null = []
  value_spelling max_key = []

  pub elements_spelling : Elements → List ℕ
  elements_spelling no_elements = []
  elements_spelling (element name t es) = type_byte t ∷ ((name ++ 0 ∷ []) ++ (value_spelling t ++ elements_spelling es))

  -- an array is spelled as a document named "0", "1", .. in order: the next name is that of the number i
  pub values_spelling : ℕ → Values → List ℕ
  values_spelling i no_values = []
  values_spelling i (item t vs) = type_byte t ∷ ((decimal i ++ 0 ∷ []) ++ (value_spelling t ++ values_spelling (i + 1) vs))

unfoldable pub spelling : Elements → List ℕ
spelling es = framed (elements_spelling es)

unfoldable pub array_spelling : Values → List ℕ
array_spelling vs = framed (values_spelling 0 vs)

-- one element, and how many bytes it has
abbrev pub element_spelling : List ℕ → Tree → List ℕ
element_spelling name t = type_byte t ∷ ((name ++ 0 ∷ []) ++ value_spelling t)

abbrev pub element_len : List ℕ → Tree → ℕ
element_len name t = length name + 2 + length (value_spelling t)

abbrev pub HasNoZero : List ℕ → Type 0
HasNoZero [] = Unit {0}
HasNoZero (b ∷ bytes) = (b ≢ 0) × HasNoZero bytes

-- UTF-8 with no 00
abbrev pub IsName : List ℕ → Type 0
IsName name = (is_utf8 name ≡ true) × HasNoZero name

-- what has a spelling
abbrev mutual
  pub IsValue : Tree → Type 0
  IsValue (int32 z) = FitsSigned w32 z
  IsValue (int64 z) = FitsSigned w64 z
  IsValue (string s) = is_utf8 s ≡ true
  IsValue (document es) = AreElements es
  IsValue (array vs) = AreValues vs
  IsValue (binary k bytes) = k < 256
  IsValue (object_id bytes) = length bytes ≡ 12
  IsValue (date z) = FitsSigned w64 z
  IsValue (timestamp s i) = (s < 2 ^ 32) × (i < 2 ^ 32)
  IsValue _ = Unit {0}

  pub AreElements : Elements → Type 0
  AreElements no_elements = Unit {0}
  AreElements (element name t es) = IsName name × IsValue t × AreElements es

  pub AreValues : Values → Type 0
  AreValues no_values = Unit {0}
  AreValues (item t vs) = IsValue t × AreValues vs

-- a document of at most 100 levels and 16,777,216 bytes
pub record IsDocument (es : Elements) : Type 0 where
  pub elements : AreElements es
  pub levels : depth es < 100
  pub short : length (spelling es) ≤ 0x100_0000
