-- Reading a document from left to right (BSON 1.0 of bsonspec.org), with the first fault that is met, and its offset:
-- * BadLength, a length that doesn't agree with its document, string or binary, or a string without its final 00: at that length;
--   a document with another byte than 00 as its last where a type byte or 00 is due, or with 00 as a type byte before: at its length;
--   any other field that reaches its document's last byte or goes past it: at the field's first byte;
-- * BadType, a byte that is no type, or a boolean other than 00 and 01: at that byte;
-- * BadUtf8, a name or a text: at its first byte; BadName, a name that isn't due in its array: at its first byte;
-- * TooDeep, more than 100 levels, the whole document being the first: at the length of the document or array that is one too many;
-- * TooLong, more than 16,777,216 bytes, where the outermost length is that of the input.
-- Where one field breaks several of these, BadLength comes first, then TooDeep, BadUtf8, BadName.
--
-- Each step is given the bytes up to its document's last byte, that byte not among them. It lies at the offset `end`, so the bytes begin at
-- `end - length bytes`, and a field reaches its document's last byte where it isn't inside these bytes.
use Rattle.std.specs.Prelude.{◌≡◌, ℕ, zero, suc, ◌+◌, ◌-◌, ◌≤◌, List, [], ◌∷◌, length, take, drop, slice_index, position, Option, Some, None, Result, Ok, Err, Bool, true, false, nat_lt, ◌==◌, ◌||◌, if◌then◌else◌}
use Rattle.std.specs.Int.{Width, w32, w64, byte_len, from_le_bytes, cast_signed}
use Rattle.std.specs.Str.{is_utf8, bytes_eq}
use Rattle.std.specs.Fmt.{decimal}
use Rattle.mm_bson.specs.declared.fault.BsonFault.{BsonFault}
use Rattle.mm_bson.specs.declared.fault.BsonFault.TheVariants.{BadLength, BadType, BadUtf8, BadName, TooDeep, TooLong, NoMemory}
use Rattle.mm_bson.specs.declared.kind.Kind.{Kind}
use Rattle.mm_bson.specs.declared.kind.Kind.TheVariants as kind
use Rattle.mm_bson.specs.Tree.{Tree, min_key, null, int32, int64, string, document, array, binary, object_id, boolean, date, timestamp, max_key, Elements, no_elements, element}
use Rattle.mm_bson.specs.Named.{unnamed}

-- ---- steps, and what a function gives

-- the first step that fails decides
infixl 10 ◌>>=◌
abbrev pub ◌>>=◌ : {A B : Type 0} → Result A BsonFault → (A → Result B BsonFault) → Result B BsonFault
(Ok x) >>= f = f x
(Err e) >>= f = Err e

-- What a function returned, seen by view, is what reading gives, unless memory ran out.
abbrev pub Fails : {Y : Type 0} → BsonFault → Result Y BsonFault → Type 0
Fails NoMemory read = Unit {0}
Fails f read = read ≡ Err f

abbrev pub Gives : {X Y : Type 0} → (X → Y) → Result X BsonFault → Result Y BsonFault → Type 0
Gives view (Ok x) read = read ≡ Ok (view x)
Gives view (Err e) read = Fails e read

-- ---- fields: each gives a value and the bytes after it

-- a wrong length, or a field that reaches its document's last byte: at the first of these bytes
abbrev pub bad_length : {A : Type 0} → ℕ → List ℕ → Result A BsonFault
bad_length end bytes = Err (BadLength (end - length bytes))

abbrev pub number_at : Width → ℕ → List ℕ → Result (ℕ × List ℕ) BsonFault
number_at w end bytes = if nat_lt (length bytes) (byte_len w) then bad_length end bytes else Ok (from_le_bytes w (take (byte_len w) bytes), drop (byte_len w) bytes)

-- so many bytes
abbrev pub bytes_at : ℕ → ℕ → List ℕ → Result (List ℕ × List ℕ) BsonFault
bytes_at n end bytes = if nat_lt (length bytes) n then bad_length end bytes else Ok (take n bytes, drop n bytes)

unfoldable pub boolean_at : ℕ → List ℕ → Result (Bool × List ℕ) BsonFault
boolean_at end [] = bad_length end []
boolean_at end (b ∷ bytes) =
    if b == 0 then Ok (false, bytes) else (if b == 1 then Ok (true, bytes) else Err (BadType (end - length (b ∷ bytes)) b))

-- the text in front of the n-th byte
abbrev pub text_to : ℕ → List ℕ → ℕ → Result (List ℕ × List ℕ) BsonFault
text_to end bytes n = if is_utf8 (take (n - 1) bytes) then Ok (take (n - 1) bytes, drop n bytes) else Err (BadUtf8 (end - length bytes))

-- a text behind its length and before its 00, which is looked at first
unfoldable pub string_at : ℕ → List ℕ → Result (List ℕ × List ℕ) BsonFault
string_at end bytes = do
  n ← number_at w32 end bytes
  if n.0 == 0 || nat_lt (length n.1) n.0 then bad_length end bytes
      else (if slice_index n.1 (n.0 - 1) == 0 then text_to end n.1 n.0 else bad_length end bytes)

-- a subtype and bytes, behind how many the bytes are
unfoldable pub binary_at : ℕ → List ℕ → Result ((ℕ × List ℕ) × List ℕ) BsonFault
binary_at end bytes = do
  n ← number_at w32 end bytes
  if nat_lt (length n.1) (n.0 + 1) then bad_length end bytes else Ok ((slice_index n.1 0, take n.0 (drop 1 n.1)), drop n.0 (drop 1 n.1))

-- ---- names

-- Which names are due: None in a document, which takes any; in an array the number of the value that comes next.
abbrev pub is_due : Option ℕ → List ℕ → Bool
is_due None name = true
is_due (Some i) name = bytes_eq name (decimal i)

abbrev pub next_due : Option ℕ → Option ℕ
next_due None = None
next_due (Some i) = Some (i + 1)

-- a name, up to its 00
abbrev pub name_to : Option ℕ → ℕ → List ℕ → Option ℕ → Result (List ℕ × List ℕ) BsonFault
name_to due end bytes None = bad_length end bytes
name_to due end bytes (Some n) =
    if is_utf8 (take n bytes) then (if is_due due (take n bytes) then Ok (take n bytes, drop (n + 1) bytes) else Err (BadName (end - length bytes))) else Err (BadUtf8 (end - length bytes))

unfoldable pub name_at : Option ℕ → ℕ → List ℕ → Result (List ℕ × List ℕ) BsonFault
name_at due end bytes = name_to due end bytes (position (λ b. b == 0) bytes)

-- ---- types

abbrev pub kind_of : ℕ → Option Kind
kind_of byte =
    if byte == 0x02 then Some kind.String
    else (if byte == 0x03 then Some kind.Document
    else (if byte == 0x04 then Some kind.Array
    else (if byte == 0x05 then Some kind.Binary
    else (if byte == 0x07 then Some kind.ObjectId
    else (if byte == 0x08 then Some kind.Boolean
    else (if byte == 0x09 then Some kind.Date
    else (if byte == 0x0a then Some kind.Null
    else (if byte == 0x10 then Some kind.Int32
    else (if byte == 0x11 then Some kind.Timestamp
    else (if byte == 0x12 then Some kind.Int64
    else (if byte == 0x7f then Some kind.MaxKey
    else (if byte == 0xff then Some kind.MinKey else None))))))))))))

abbrev pub kind_at : ℕ → ℕ → List ℕ → Option Kind → Result Kind BsonFault
kind_at end b bytes None = Err (BadType (end - length bytes) b)
kind_at end b bytes (Some k) = Ok k

-- The document begins at start. A 00 in place of a type is its end, which comes too early.
abbrev pub type_at : ℕ → ℕ → List ℕ → Result (Kind × List ℕ) BsonFault
type_at start end [] = Err (BadLength start)
type_at start end (b ∷ bytes) =
    if b == 0 then Err (BadLength start) else (kind_at end b (b ∷ bytes) (kind_of b) >>= λ k. Ok (k, bytes))

-- ---- values

-- How a document inside is read: the names that are due, its offset, all of its bytes.
abbrev pub Reader : Type 0
Reader = Option ℕ → ℕ → List ℕ → Result Elements BsonFault

-- the length of a document or array inside, which counts all of its bytes
unfoldable pub len_at : ℕ → List ℕ → Result ℕ BsonFault
len_at end bytes = do
  n ← number_at w32 end bytes
  if nat_lt n.0 5 || nat_lt (length bytes) n.0 then bad_length end bytes else Ok n.0

-- a document or array inside
unfoldable pub document_at : (ℕ → List ℕ → Result Elements BsonFault) → ℕ → List ℕ → Result (Elements × List ℕ) BsonFault
document_at read end bytes = do
  n ← len_at end bytes
  es ← read (end - length bytes) (take n bytes)
  Ok (es, drop n bytes)

unfoldable pub value_at : Reader → Kind → ℕ → List ℕ → Result (Tree × List ℕ) BsonFault
value_at read kind.Int32 end bytes = do
  n ← number_at w32 end bytes
  Ok (int32 (cast_signed w32 n.0), n.1)
value_at read kind.Int64 end bytes = do
  n ← number_at w64 end bytes
  Ok (int64 (cast_signed w64 n.0), n.1)
value_at read kind.Date end bytes = do
  n ← number_at w64 end bytes
  Ok (date (cast_signed w64 n.0), n.1)
value_at read kind.Timestamp end bytes = do
  i ← number_at w32 end bytes
  s ← number_at w32 end i.1
  Ok (timestamp s.0 i.0, s.1)
value_at read kind.ObjectId end bytes = do
  b ← bytes_at 12 end bytes
  Ok (object_id b.0, b.1)
value_at read kind.Binary end bytes = do
  b ← binary_at end bytes
  Ok (binary b.0.0 b.0.1, b.1)
value_at read kind.Boolean end bytes = do
  b ← boolean_at end bytes
  Ok (boolean b.0, b.1)
value_at read kind.Null end bytes = Ok (null, bytes)
value_at read kind.MinKey end bytes = Ok (min_key, bytes)
value_at read kind.MaxKey end bytes = Ok (max_key, bytes)
value_at read kind.String end bytes = do
  s ← string_at end bytes
  Ok (string s.0, s.1)
value_at read kind.Document end bytes = do
  d ← document_at (read None) end bytes
  Ok (document d.0, d.1)
value_at read kind.Array end bytes = do
  d ← document_at (read (Some 0)) end bytes
  Ok (array (unnamed d.0), d.1)

-- ---- elements and documents

unfoldable pub element_at : Reader → Option ℕ → ℕ → ℕ → List ℕ → Result ((List ℕ × Tree) × List ℕ) BsonFault
element_at read due start end bytes = do
  k ← type_at start end bytes
  name ← name_at due end k.1
  value ← value_at read k.0 end name.1
  Ok ((name.0, value.0), value.1)

-- Elements up to the document's last byte, at most so many: as many as there are bytes suffice.
unfoldable pub elements_at : Reader → Option ℕ → ℕ → ℕ → ℕ → List ℕ → Result Elements BsonFault
elements_at read due start end most [] = Ok no_elements
elements_at read due start end zero (b ∷ bytes) = Err TooLong
elements_at read due start end (suc most) (b ∷ bytes) = do
  e ← element_at read due start end (b ∷ bytes)
  es ← elements_at read (next_due due) start end most e.1
  Ok (element e.0.0 e.0.1 es)

-- between a document's length and its last byte
abbrev pub body : List ℕ → List ℕ
body bytes = take (length bytes - 1 - 4) (drop 4 bytes)

-- a document's last byte is 00
abbrev pub ended : ℕ → List ℕ → Elements → Result Elements BsonFault
ended start bytes es = if slice_index bytes (length bytes - 1) == 0 then Ok es else Err (BadLength start)

-- a document of exactly these bytes, which begin with their length and lie at start, and at most so many levels of documents and arrays
unfoldable pub nested_at : ℕ → Reader
nested_at zero due start bytes = Err (TooDeep start)
nested_at (suc levels) due start bytes = elements_at (nested_at levels) due start (start + (length bytes - 1)) (length (body bytes)) (body bytes) >>= ended start bytes

-- the bytes begin with how many they are
pub record IsFramed (bytes : List ℕ) : Type 0 where
  pub long : 5 ≤ length bytes
  pub counted : from_le_bytes w32 (take 4 bytes) ≡ length bytes

-- all of the bytes: the outermost length is looked at first
unfoldable pub whole : List ℕ → Result Elements BsonFault
whole bytes = do
  n ← number_at w32 (length bytes) bytes
  if nat_lt n.0 5 || (nat_lt n.0 (length bytes) || nat_lt (length bytes) n.0) then Err (BadLength 0)
      else (if nat_lt 0x100_0000 n.0 then Err TooLong else nested_at 100 None 0 bytes)
