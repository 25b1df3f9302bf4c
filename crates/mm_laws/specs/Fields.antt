-- The field at which reading a document stops: what is wrong there, in the format's words, which fault that is, and where the field ends.
-- Offsets are counted from the first of all the bytes.
use Rattle.std.specs.Prelude.{◌≡◌, ◌≢◌, ◌⊎◌, ℕ, ◌+◌, ◌<◌, ◌≤◌, List, [], ◌∷◌, ◌++◌, length, take, slice_index, None, Err, true, false}
use Rattle.std.specs.Int.{w32, to_le_bytes}
use Rattle.std.specs.Str.{is_utf8}
use Rattle.std.specs.Fmt.{decimal}
use Rattle.mm_bson.specs.declared.fault.BsonFault.{BsonFault}
use Rattle.mm_bson.specs.declared.fault.BsonFault.TheVariants.{BadLength, BadType, BadUtf8, BadName, TooDeep, TooLong}
use Rattle.mm_bson.specs.Tree.{Elements}
use Rattle.mm_bson.specs.Spelling.{elements_spelling, HasNoZero}
use Rattle.mm_bson.specs.Walk.{size}
use Rattle.mm_bson.specs.Reading.{kind_of, whole}
use Rattle.mm_bson.specs.Faults.{Stands}

-- Each with the offset of its first byte. `last` is the offset of the last byte of the document or array in which the field lies.
pub data Field : Type 0 where
  -- there are not even the four bytes of a length
  no_length : Field
  -- the outermost length n, which isn't how many bytes there are, or which no document has
  wrong_whole : ℕ → Field
  -- the outermost length n, which is how many bytes there are, and too many
  too_long : ℕ → Field
  -- the length n of a document or array that is one level too many
  too_deep : ℕ → ℕ → Field
  -- the length n of a document or array, of a text, of a binary: at, n, last
  wrong_document : ℕ → ℕ → ℕ → Field
  wrong_text : ℕ → ℕ → ℕ → Field
  wrong_binary : ℕ → ℕ → ℕ → Field
  -- a field of so many bytes, which reaches the last byte or goes past it: at, how many, last
  cut_off : ℕ → ℕ → ℕ → Field
  -- a name that goes on to the last byte: at, its bytes, last
  open_name : ℕ → List ℕ → ℕ → Field
  -- a text with another byte than 00 behind it: its length's offset, the text, that byte
  open_text : ℕ → List ℕ → ℕ → Field
  -- a document or array of the length n with a 00 behind these elements, too early: at, n, elements
  early_end : ℕ → ℕ → Elements → Field
  -- a document or array of these elements, with another byte than 00 as its last: at, elements, that byte
  open_end : ℕ → Elements → ℕ → Field
  -- a byte where a type is due, where a boolean is due
  no_type : ℕ → ℕ → Field
  no_boolean : ℕ → ℕ → Field
  -- a name that isn't UTF-8, one that isn't due behind these elements of its array: at, name, elements
  bad_name : ℕ → List ℕ → Field
  other_name : ℕ → List ℕ → Elements → Field
  -- a text that isn't UTF-8: its length's offset, the text
  bad_text : ℕ → List ℕ → Field

abbrev pub fault_of : Field → BsonFault
fault_of no_length = BadLength 0
fault_of (wrong_whole n) = BadLength 0
fault_of (too_long n) = TooLong
fault_of (too_deep at n) = TooDeep at
fault_of (wrong_document at n last) = BadLength at
fault_of (wrong_text at n last) = BadLength at
fault_of (wrong_binary at n last) = BadLength at
fault_of (cut_off at many last) = BadLength at
fault_of (open_name at bytes last) = BadLength at
fault_of (open_text at text byte) = BadLength at
fault_of (early_end at n es) = BadLength at
fault_of (open_end at es byte) = BadLength at
fault_of (no_type at byte) = BadType at byte
fault_of (no_boolean at byte) = BadType at byte
fault_of (bad_name at name) = BadUtf8 at
fault_of (other_name at name es) = BadName at
fault_of (bad_text at text) = BadUtf8 (at + 4)

-- Where the field ends: how many of all the bytes lie before its end. Of a field for which there are too few bytes nothing is looked at.
abbrev pub end_of : Field → ℕ
end_of no_length = 0
end_of (wrong_whole n) = 4
end_of (too_long n) = 4
end_of (too_deep at n) = at + 4
end_of (wrong_document at n last) = at + 4
end_of (wrong_text at n last) = at + 4
end_of (wrong_binary at n last) = at + 4
end_of (cut_off at many last) = at
end_of (open_name at bytes last) = at + length bytes
end_of (open_text at text byte) = at + 4 + length text + 1
end_of (early_end at n es) = at + 4 + length (elements_spelling es) + 1
end_of (open_end at es byte) = at + 4 + length (elements_spelling es) + 1
end_of (no_type at byte) = at + 1
end_of (no_boolean at byte) = at + 1
end_of (bad_name at name) = at + length name + 1
end_of (other_name at name es) = at + length name + 1
end_of (bad_text at text) = at + 4 + length text + 1

-- a document or array begins before, and its last byte lies there
pub record IsWithin (at last : ℕ) (all : List ℕ) : Type 0 where
  pub start : ℕ
  pub len : ℕ
  pub stands : Stands start (to_le_bytes w32 len) all
  pub behind : start + 4 < at
  pub ends : start + len ≡ last + 1

-- a name begins there behind these elements, and behind its own type
pub record IsBehind (at : ℕ) (es : Elements) (all : List ℕ) : Type 0 where
  pub start : ℕ
  pub stands : Stands (start + 4) (elements_spelling es) all
  pub place : at ≡ start + 4 + length (elements_spelling es) + 1

-- What stands there, and why it is wrong.
abbrev pub IsFaulty : List ℕ → Field → Type 0
IsFaulty all no_length = length all < 4
IsFaulty all (wrong_whole n) = Stands 0 (to_le_bytes w32 n) all × ((n < 5) ⊎ (n ≢ length all))
IsFaulty all (too_long n) = Stands 0 (to_le_bytes w32 n) all × (n ≡ length all) × (0x100_0000 < n)
IsFaulty all (too_deep at n) = Stands at (to_le_bytes w32 n) all
IsFaulty all (wrong_document at n last) = IsWithin at last all × Stands at (to_le_bytes w32 n) all × ((n < 5) ⊎ (last < at + n))
IsFaulty all (wrong_text at n last) = IsWithin at last all × Stands at (to_le_bytes w32 n) all × ((n ≡ 0) ⊎ (last < at + 4 + n))
IsFaulty all (wrong_binary at n last) = IsWithin at last all × Stands at (to_le_bytes w32 n) all × (last < at + 4 + 1 + n)
IsFaulty all (cut_off at many last) = IsWithin at last all × (at ≤ last) × (last < at + many) × (many ≤ 12)
IsFaulty all (open_name at bytes last) = IsWithin at last all × Stands at bytes all × HasNoZero bytes × (at + length bytes ≡ last)
IsFaulty all (open_text at text byte) = Stands at (to_le_bytes w32 (length text + 1)) all × Stands (at + 4) (text ++ byte ∷ []) all × (byte ≢ 0)
IsFaulty all (early_end at n es) = Stands at (to_le_bytes w32 n) all × Stands (at + 4) (elements_spelling es ++ 0 ∷ []) all × (length (elements_spelling es) + 5 < n)
IsFaulty all (open_end at es byte) = Stands at (to_le_bytes w32 (length (elements_spelling es) + 5)) all × Stands (at + 4) (elements_spelling es ++ byte ∷ []) all × (byte ≢ 0)
IsFaulty all (no_type at byte) = Stands at (byte ∷ []) all × (byte ≢ 0) × (kind_of byte ≡ None)
IsFaulty all (no_boolean at byte) = Stands at (byte ∷ []) all × (byte ≢ 0) × (byte ≢ 1)
IsFaulty all (bad_name at name) = Stands at (name ++ 0 ∷ []) all × HasNoZero name × (is_utf8 name ≡ false)
IsFaulty all (other_name at name es) = Stands at (name ++ 0 ∷ []) all × HasNoZero name × (is_utf8 name ≡ true) × IsBehind at es all × (name ≢ decimal (size es))
IsFaulty all (bad_text at text) = Stands at (to_le_bytes w32 (length text + 1)) all × Stands (at + 4) (text ++ 0 ∷ []) all × (is_utf8 text ≡ false)

abbrev pub AreBytes : List ℕ → Type 0
AreBytes bytes = (i : ℕ) → slice_index bytes i < 256

-- the same number of bytes, and so many of them the same
abbrev pub AgreeTo : ℕ → List ℕ → List ℕ → Type 0
AgreeTo n bytes others = (length others ≡ length bytes) × (take n others ≡ take n bytes)

-- The first fault of bytes lies at a field, whose first bytes and those before it alone decide: other bytes that agree with them up to the end of
-- that field have the same fault, whatever comes after.
abbrev pub FirstBytesDecide : Type 0
FirstBytesDecide = (bytes : List ℕ) (e : BsonFault) → AreBytes bytes → whole bytes ≡ Err e
    → (f : Field) × (fault_of f ≡ e) × IsFaulty bytes f × ((others : List ℕ) → AgreeTo (end_of f) bytes others → whole others ≡ Err e)

-- ---- where the fault alone tells the field's end

-- a byte that is no type, or no boolean: behind it
abbrev pub TypesDecide : Type 0
TypesDecide = (bytes others : List ℕ) (at byte : ℕ) → AreBytes bytes → whole bytes ≡ Err (BadType at byte) → AgreeTo (at + 1) bytes others → whole others ≡ Err (BadType at byte)

-- one level too many: behind the length of the document or array
abbrev pub DepthsDecide : Type 0
DepthsDecide = (bytes others : List ℕ) (at : ℕ) → AreBytes bytes → whole bytes ≡ Err (TooDeep at) → AgreeTo (at + 4) bytes others → whole others ≡ Err (TooDeep at)

-- too many bytes: behind the outermost length
abbrev pub SizesDecide : Type 0
SizesDecide = (bytes others : List ℕ) → AreBytes bytes → whole bytes ≡ Err TooLong → AgreeTo 4 bytes others → whole others ≡ Err TooLong

-- a name that isn't due: behind its 00
abbrev pub NamesDecide : Type 0
NamesDecide = (bytes others name : List ℕ) (at : ℕ) → AreBytes bytes → whole bytes ≡ Err (BadName at) → HasNoZero name → Stands at (name ++ 0 ∷ []) bytes → AgreeTo (at + length name + 1) bytes others
    → whole others ≡ Err (BadName at)
