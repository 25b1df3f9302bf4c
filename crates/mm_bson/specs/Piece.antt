-- One field read from the front, with no look inside a document, an array or a text. What is still to be looked at is a step of its own, so that
-- one reader serves who must check the bytes and who knows that they are good.
use Rattle.std.specs.Prelude.{◌≡◌, ℕ, ◌+◌, ◌-◌, List, length, take, drop, slice_index, position, Option, Some, None, Result, Ok, Err, nat_lt, ◌==◌, ◌||◌, if◌then◌else◌}
use Rattle.std.specs.Int.{w32, w64, cast_signed}
use Rattle.std.specs.Str.{is_utf8}
use Rattle.mm_bson.specs.declared.fault.BsonFault.{BsonFault}
use Rattle.mm_bson.specs.declared.fault.BsonFault.TheVariants.{BadUtf8}
use Rattle.mm_bson.specs.declared.kind.Kind.{Kind}
use Rattle.mm_bson.specs.declared.kind.Kind.TheVariants as kind
use Rattle.mm_bson.specs.declared.raw.Raw.{Raw}
use Rattle.mm_bson.specs.declared.raw.Raw.TheVariants as raw
use Rattle.mm_bson.specs.Tree.{Tree, min_key, null, int32, int64, string, document, array, binary, object_id, boolean, date, timestamp, max_key}
use Rattle.mm_bson.specs.Named.{unnamed}
use Rattle.mm_bson.specs.Spelling.{spelling, array_spelling}
use Rattle.mm_bson.specs.Reading.{◌>>=◌, Reader, bad_length, number_at, bytes_at, boolean_at, binary_at, len_at, type_at, name_at, IsFramed}

-- what a function answered is what reading gives
abbrev pub Is : {X Y : Type 0} → (X → Y) → Result X BsonFault → Result Y BsonFault → Type 0
Is view (Ok x) read = read ≡ Ok (view x)
Is view (Err e) read = read ≡ Err e

-- It answers whether reading gives anything, and if not, the first fault.
abbrev pub Judges : {X Y : Type 0} → Result X BsonFault → Result Y BsonFault → Type 0
Judges {Y = Y} (Ok x) read = (y : Y) × (read ≡ Ok y)
Judges (Err e) read = read ≡ Err e

-- a value, or the bytes in which one lies
pub data Piece : Type 0 where
  plain : Tree → Piece
  text : List ℕ → Piece
  inner_document : List ℕ → Piece
  inner_array : List ℕ → Piece

abbrev pub piece : Raw → Piece
piece raw.MinKey = plain min_key
piece raw.Null = plain null
piece raw.MaxKey = plain max_key
piece (raw.Int32 z) = plain (int32 z)
piece (raw.Int64 z) = plain (int64 z)
piece (raw.Date z) = plain (date z)
piece (raw.Boolean b) = plain (boolean b)
piece (raw.Timestamp s i) = plain (timestamp s i)
piece (raw.ObjectId b) = plain (object_id b.now)
piece (raw.Binary k b) = plain (binary k b.now)
piece (raw.String s) = text s.now
piece (raw.Document b) = inner_document b.now
piece (raw.Array b) = inner_array b.now

-- how many bytes a look inside needs
abbrev pub piece_len : Piece → ℕ
piece_len (plain t) = 0
piece_len (text s) = length s + 1
piece_len (inner_document b) = length b
piece_len (inner_array b) = length b

-- a document or array inside begins with its length
abbrev pub IsPieceFramed : Piece → Type 0
IsPieceFramed (inner_document b) = IsFramed b
IsPieceFramed (inner_array b) = IsFramed b
IsPieceFramed _ = Unit {0}

-- a text behind its length and before its 00
unfoldable pub text_at : ℕ → List ℕ → Result (List ℕ × List ℕ) BsonFault
text_at end bytes = do
  n ← number_at w32 end bytes
  if n.0 == 0 || nat_lt (length n.1) n.0 then bad_length end bytes
      else (if slice_index n.1 (n.0 - 1) == 0 then Ok (take (n.0 - 1) n.1, drop n.0 n.1) else bad_length end bytes)

-- the bytes of a document or array
unfoldable pub framed_at : ℕ → List ℕ → Result (List ℕ × List ℕ) BsonFault
framed_at end bytes = do
  n ← len_at end bytes
  Ok (take n bytes, drop n bytes)

unfoldable pub piece_at : Kind → ℕ → List ℕ → Result (Piece × List ℕ) BsonFault
piece_at kind.Int32 end bytes = do
  n ← number_at w32 end bytes
  Ok (plain (int32 (cast_signed w32 n.0)), n.1)
piece_at kind.Int64 end bytes = do
  n ← number_at w64 end bytes
  Ok (plain (int64 (cast_signed w64 n.0)), n.1)
piece_at kind.Date end bytes = do
  n ← number_at w64 end bytes
  Ok (plain (date (cast_signed w64 n.0)), n.1)
piece_at kind.Timestamp end bytes = do
  i ← number_at w32 end bytes
  s ← number_at w32 end i.1
  Ok (plain (timestamp s.0 i.0), s.1)
piece_at kind.ObjectId end bytes = do
  b ← bytes_at 12 end bytes
  Ok (plain (object_id b.0), b.1)
piece_at kind.Binary end bytes = do
  b ← binary_at end bytes
  Ok (plain (binary b.0.0 b.0.1), b.1)
piece_at kind.Boolean end bytes = do
  b ← boolean_at end bytes
  Ok (plain (boolean b.0), b.1)
piece_at kind.Null end bytes = Ok (plain null, bytes)
piece_at kind.MinKey end bytes = Ok (plain min_key, bytes)
piece_at kind.MaxKey end bytes = Ok (plain max_key, bytes)
piece_at kind.String end bytes = do
  s ← text_at end bytes
  Ok (text s.0, s.1)
piece_at kind.Document end bytes = do
  b ← framed_at end bytes
  Ok (inner_document b.0, b.1)
piece_at kind.Array end bytes = do
  b ← framed_at end bytes
  Ok (inner_array b.0, b.1)

-- The look inside. So many bytes are left behind the value.
abbrev pub inside_at : Reader → ℕ → Piece → ℕ → Result Tree BsonFault
inside_at read end (plain t) left = Ok t
inside_at read end (text s) left = if is_utf8 s then Ok (string s) else Err (BadUtf8 (end - (left + (length s + 1))))
inside_at read end (inner_document b) left = read None (end - (left + length b)) b >>= λ es. Ok (document es)
inside_at read end (inner_array b) left = read (Some 0) (end - (left + length b)) b >>= λ es. Ok (array (unnamed es))

-- an element with no look inside its value
unfoldable pub head_at : Option ℕ → ℕ → ℕ → List ℕ → Result ((List ℕ × Piece) × List ℕ) BsonFault
head_at due start end bytes = do
  k ← type_at start end bytes
  name ← name_at due end k.1
  p ← piece_at k.0 end name.1
  Ok ((name.0, p.0), p.1)

-- an element where the name isn't looked at either
abbrev pub cut_to : ℕ → List ℕ → Option ℕ → Result (List ℕ × List ℕ) BsonFault
cut_to end bytes None = bad_length end bytes
cut_to end bytes (Some n) = Ok (take n bytes, drop (n + 1) bytes)

unfoldable pub cut_at : ℕ → List ℕ → Result ((List ℕ × Piece) × List ℕ) BsonFault
cut_at end bytes = do
  k ← type_at 0 end bytes
  name ← cut_to end k.1 (position (λ b. b == 0) k.1)
  p ← piece_at k.0 end name.1
  Ok ((name.0, p.0), p.1)

-- how a value lies in bytes
abbrev pub piece_for : Tree → Piece
piece_for (string s) = text s
piece_for (document es) = inner_document (spelling es)
piece_for (array vs) = inner_array (array_spelling vs)
piece_for t = plain t
