-- Reading a document from left to right. Each step is given the text from its place on, and answers a value and the text behind it, or the
-- text from the first byte on that can't stand there; the empty text where it ends too early. That these places are those of the grammar
-- is proved of them, so nothing but the reader rests on this page.
use Rattle.std.specs.Prelude.{◌≡◌, ℕ, zero, suc, ◌+◌, ◌-◌, ◌*◌, ◌^◌, ◌==◌, ◌||◌, ◌&&◌, ℤ, pos, Bool, true, false, not, List, [], ◌∷◌, ◌++◌, length, codes, Option, Some, None, Result, Ok, Err, nat_lt, nat_le, if◌then◌else◌}
use Rattle.std.specs.Str.{is_utf8}
use Rattle.std.specs.Char.{encode_utf8}
use Rattle.std.specs.Char.Utf16.{is_high_surrogate, surrogate_pair_char}
use Rattle.hex.specs.Hex.{hex_digit_value}
use Rattle.mm_bson.specs.Tree.{Tree, min_key, null, int32, int64, string, document, array, binary, object_id, boolean, date, timestamp, max_key, Elements, no_elements, element, Values, no_values, item}
use Rattle.mm_notation.specs.declared.stop.Stop.{Stop}
use Rattle.mm_notation.specs.declared.stop.Stop.TheVariants.{NoMemory, At}
use Rattle.mm_notation.specs.declared.kind.Kind.{Kind}
use Rattle.mm_notation.specs.declared.kind.Kind.TheVariants as kind
use Rattle.mm_notation.specs.declared.strings.Piece.{Piece}
use Rattle.mm_notation.specs.declared.strings.Piece.TheVariants.{Byte, Character}
use Rattle.mm_notation.specs.Grammar.{escaped, negated}
use Rattle.mm_notation.specs.Written.{is_small}

-- ---- steps, and what a function gives

abbrev pub Read : Type 0 → Type 0
Read A = Result (A × List ℕ) (List ℕ)

-- the first step that fails decides
infixl 10 ◌>>=◌
abbrev pub ◌>>=◌ : {A B : Type 0} → Result A (List ℕ) → (A → Result B (List ℕ)) → Result B (List ℕ)
(Ok x) >>= f = f x
(Err r) >>= f = Err r

-- What a function returned, seen by view, is what reading gives, unless memory ran out.
abbrev pub Fails : {Y : Type 0} → Stop → Result Y (List ℕ) → Type 0
Fails NoMemory read = Unit {0}
Fails (At rest) read = read ≡ Err rest.now

abbrev pub Gives : {X Y : Type 0} → (X → Y) → Result X Stop → Result Y (List ℕ) → Type 0
Gives view (Ok x) read = read ≡ Ok (view x)
Gives view (Err e) read = Fails e read

-- ---- bytes and words

unfoldable pub byte_at : ℕ → List ℕ → Read (Unit {0})
byte_at byte [] = Err []
byte_at byte (b ∷ text) = if b == byte then Ok (tt, text) else Err (b ∷ text)

abbrev pub skip : List ℕ → List ℕ
skip [] = []
skip (b ∷ text) = if b == 0x20 then skip text else b ∷ text

unfoldable pub word_at : List ℕ → List ℕ → Read (Unit {0})
word_at [] text = Ok (tt, text)
word_at (byte ∷ word) text = byte_at byte text >>= λ x. word_at word x.1

unfoldable pub mark_at : ℕ → List ℕ → Read (Unit {0})
mark_at byte text = byte_at byte (skip text)

-- ---- integers of at most a limit

abbrev pub is_digit : ℕ → Bool
is_digit b = nat_le 0x30 b && nat_le b 0x39

-- behind digits of the number n, of which 0 is no front of another
abbrev pub digits_at : ℕ → ℕ → List ℕ → Read ℕ
digits_at limit n [] = Ok (n, [])
digits_at limit n (b ∷ text) =
    if is_digit b then (if n == 0 || nat_lt limit (n * 10 + (b - 0x30)) then Err (b ∷ text) else digits_at limit (n * 10 + (b - 0x30)) text)
    else Ok (n, b ∷ text)

unfoldable pub natural_at : ℕ → List ℕ → Read ℕ
natural_at limit [] = Err []
natural_at limit (b ∷ text) = if is_digit b && nat_le (b - 0x30) limit then digits_at limit (b - 0x30) text else Err (b ∷ text)

-- from -low to high
unfoldable pub integer_at : ℕ → ℕ → List ℕ → Read ℤ
integer_at low high [] = Err []
integer_at low high (b ∷ text) =
    if b == 0x2d then (natural_at low text >>= λ n. Ok (negated n.0, n.1)) else (natural_at high (b ∷ text) >>= λ n. Ok (pos n.0, n.1))

-- from 0 to high
unfoldable pub unsigned_at : ℕ → List ℕ → Read ℕ
unsigned_at high [] = Err []
unsigned_at high (b ∷ text) = if b == 0x2d then natural_at 0 text else natural_at high (b ∷ text)

-- ---- hex digits

-- a digit that is at least low and at most high
abbrev pub digit_or : ℕ → ℕ → List ℕ → List ℕ → Option ℕ → Read ℕ
digit_or low high all text None = Err all
digit_or low high all text (Some d) = if nat_le low d && nat_le d high then Ok (d, text) else Err all

unfoldable pub digit_at : ℕ → ℕ → List ℕ → Read ℕ
digit_at low high [] = Err []
digit_at low high (b ∷ text) = digit_or low high (b ∷ text) text (hex_digit_value b)

unfoldable pub pair_at : List ℕ → Read ℕ
pair_at text = do
  h ← digit_at 0 15 text
  l ← digit_at 0 15 h.1
  Ok (h.0 * 16 + l.0, l.1)

-- ---- many items: each step reads an item, or the end

abbrev pub Item : Type 0 → Type 0
Item X = List ℕ → Read (Option X)

-- behind an item, how the others are read, or the end
abbrev pub behind_item : {X M : Type 0} → M → (X → M → M) → (List ℕ → Read M) → Option X → List ℕ → Read M
behind_item nil cons others None text = Ok (nil, text)
behind_item nil cons others (Some x) text = others text >>= λ m. Ok (cons x m.0, m.1)

abbrev pub many_for : {X M : Type 0} → M → (X → M → M) → Item X → ℕ → List ℕ → Read M
many_for nil cons one zero text = Err text
many_for nil cons one (suc fuel) text = one text >>= λ x. behind_item nil cons (many_for nil cons one fuel) x.0 x.1

-- there are at most as many items as bytes
unfoldable pub many_at : {X M : Type 0} → M → (X → M → M) → Item X → List ℕ → Read M
many_at nil cons one text = many_for nil cons one (length text) text

-- ---- strings

unfoldable pub hex_item : Item ℕ
hex_item [] = Err []
hex_item (b ∷ text) = if b == 0x22 then Ok (None, text) else (pair_at (b ∷ text) >>= λ p. Ok (Some p.0, p.1))

abbrev pub hex_at : List ℕ → Read (List ℕ)
hex_at text = byte_at 0x22 text >>= λ q. many_at [] (λ b bytes. b ∷ bytes) hex_item q.1

-- so many bytes, and no more
unfoldable pub pairs_at : ℕ → List ℕ → Read (List ℕ)
pairs_at zero text = Ok ([], text)
pairs_at (suc n) text = do
  b ← pair_at text
  bytes ← pairs_at n b.1
  Ok (b.0 ∷ bytes.0, bytes.1)

-- so many bytes between quotes
abbrev pub quoted_at : ℕ → List ℕ → Read (List ℕ)
quoted_at n text = do
  q ← byte_at 0x22 text
  bytes ← pairs_at n q.1
  r ← byte_at 0x22 bytes.1
  Ok (bytes.0, r.1)

-- The four digits of a unit of UTF-16: the second one of a pair, or any other but those. In a name it isn't 0.
unfoldable pub unit_at : Bool → Bool → List ℕ → Read ℕ
unit_at second named text = do
  a ← digit_at (if second then 13 else 0) (if second then 13 else 15) text
  b ← digit_at (if second then 12 else 0) (if not second && a.0 == 13 then 11 else 15) a.1
  c ← digit_at 0 15 b.1
  d ← digit_at (if named && a.0 + b.0 + c.0 == 0 then 1 else 0) 15 c.1
  Ok ((a.0 * 16 + b.0) * 256 + (c.0 * 16 + d.0), d.1)

-- the bytes of a piece
abbrev pub piece_bytes : Piece → List ℕ
piece_bytes (Byte b) = b ∷ []
piece_bytes (Character c) = encode_utf8 c

-- behind the first unit
unfoldable pub character_at : ℕ → List ℕ → Read (List ℕ)
character_at u text =
    if is_high_surrogate u then (word_at (0x5c ∷ 0x75 ∷ []) text >>= λ w. unit_at true false w.1 >>= λ v. Ok (encode_utf8 (surrogate_pair_char u v.0), v.1))
    else Ok (encode_utf8 u, text)

abbrev pub letter_or : List ℕ → List ℕ → Option ℕ → Read (List ℕ)
letter_or all text None = Err all
letter_or all text (Some b) = Ok (b ∷ [], text)

-- behind `\`
unfoldable pub escape_at : Bool → List ℕ → Read (List ℕ)
escape_at named [] = Err []
escape_at named (b ∷ text) =
    if b == 0x75 then (unit_at false named text >>= λ u. character_at u.0 u.1) else letter_or (b ∷ text) text (escaped b)

abbrev pub some_of : {A : Type 0} → A × List ℕ → Read (Option A)
some_of x = Ok (Some x.0, x.1)

unfoldable pub piece_item : Bool → Item (List ℕ)
piece_item named [] = Err []
piece_item named (b ∷ text) =
    if b == 0x22 then Ok (None, text)
    else (if b == 0x5c then (escape_at named text >>= some_of)
    else (if nat_lt b 0x20 then Err (b ∷ text) else Ok (Some (b ∷ []), text)))

-- A text is UTF-8 wherever this is called, so the last test holds.
unfoldable pub string_at : Bool → List ℕ → Read (List ℕ)
string_at named text = do
  q ← byte_at 0x22 text
  s ← many_at [] (λ piece bytes. piece ++ bytes) (piece_item named) q.1
  if is_utf8 s.0 then Ok s else Err s.1

-- ---- values

-- the kind of value of which a text's first byte tells
abbrev pub kind_of : ℕ → Option Kind
kind_of b =
    if b == 0x7b then Some kind.Object
    else (if b == 0x5b then Some kind.Array
    else (if b == 0x22 then Some kind.String
    else (if b == 0x2d || is_digit b then Some kind.Integer
    else (if b == 0x74 then Some kind.True
    else (if b == 0x66 then Some kind.False
    else (if b == 0x6e then Some kind.Null
    else (if b == 0x4d then Some kind.Key
    else (if b == 0x4e then Some kind.Long
    else (if b == 0x44 then Some kind.Date
    else (if b == 0x54 then Some kind.Timestamp
    else (if b == 0x4f then Some kind.ObjectId
    else (if b == 0x48 then Some kind.HexData else None))))))))))))

abbrev pub kind_or : List ℕ → Option Kind → Result Kind (List ℕ)
kind_or text None = Err text
kind_or text (Some k) = Ok k

abbrev pub kind_at : List ℕ → Result Kind (List ℕ)
kind_at [] = Err []
kind_at (b ∷ text) = kind_or (b ∷ text) (kind_of b)

-- a word that is a value
abbrev pub constant_at : List ℕ → Tree → List ℕ → Read Tree
constant_at word t text = word_at word text >>= λ w. Ok (t, w.1)

-- behind `M`
unfoldable pub key_at : List ℕ → Read Tree
key_at [] = Err []
key_at (b ∷ text) = if b == 0x61 then constant_at (codes "axKey") max_key (b ∷ text) else constant_at (codes "inKey") min_key (b ∷ text)

abbrev pub number : ℤ → Tree
number z = if is_small z then int32 z else int64 z

-- a word and `(`
unfoldable pub opening_at : List ℕ → List ℕ → Read (Unit {0})
opening_at word text = word_at word text >>= λ w. mark_at 0x28 w.1 >>= λ p. Ok (tt, skip p.1)

unfoldable pub call_at : List ℕ → List ℕ → Read ℤ
call_at word text = do
  o ← opening_at word text
  z ← integer_at (2 ^ 63) (2 ^ 63 - 1) o.1
  c ← mark_at 0x29 z.1
  Ok (z.0, c.1)

unfoldable pub timestamp_at : List ℕ → Read Tree
timestamp_at text = do
  o ← opening_at (codes "Timestamp") text
  s ← unsigned_at (2 ^ 32 - 1) o.1
  m ← mark_at 0x2c s.1
  i ← unsigned_at (2 ^ 32 - 1) (skip m.1)
  c ← mark_at 0x29 i.1
  Ok (timestamp s.0 i.0, c.1)

unfoldable pub object_id_at : List ℕ → Read Tree
object_id_at text = do
  o ← opening_at (codes "ObjectId") text
  id ← quoted_at 12 o.1
  c ← mark_at 0x29 id.1
  Ok (object_id id.0, c.1)

unfoldable pub hex_data_at : List ℕ → Read Tree
hex_data_at text = do
  o ← opening_at (codes "HexData") text
  k ← unsigned_at 255 o.1
  m ← mark_at 0x2c k.1
  bytes ← hex_at (skip m.1)
  c ← mark_at 0x29 bytes.1
  Ok (binary k.0 bytes.0, c.1)

-- how objects and arrays inside are read
abbrev pub value_of : (List ℕ → Read Elements) → (List ℕ → Read Values) → Kind → List ℕ → Read Tree
value_of objects arrays kind.Object text = objects text >>= λ d. Ok (document d.0, d.1)
value_of objects arrays kind.Array text = arrays text >>= λ a. Ok (array a.0, a.1)
value_of objects arrays kind.String text = string_at false text >>= λ s. Ok (string s.0, s.1)
value_of objects arrays kind.Integer text = integer_at (2 ^ 63) (2 ^ 63 - 1) text >>= λ z. Ok (number z.0, z.1)
value_of objects arrays kind.True text = constant_at (codes "true") (boolean true) text
value_of objects arrays kind.False text = constant_at (codes "false") (boolean false) text
value_of objects arrays kind.Null text = constant_at (codes "null") null text
value_of objects arrays kind.Key text = byte_at 0x4d text >>= λ m. key_at m.1
value_of objects arrays kind.Long text = call_at (codes "NumberLong") text >>= λ z. Ok (int64 z.0, z.1)
value_of objects arrays kind.Date text = call_at (codes "Date") text >>= λ z. Ok (date z.0, z.1)
value_of objects arrays kind.Timestamp text = timestamp_at text
value_of objects arrays kind.ObjectId text = object_id_at text
value_of objects arrays kind.HexData text = hex_data_at text

-- ---- objects and arrays

-- Behind the opening mark and spaces: whether the closing mark stands there at once.
unfoldable pub closed_at : ℕ → List ℕ → Read Bool
closed_at close [] = Ok (false, [])
closed_at close (b ∷ text) = if b == close then Ok (true, text) else Ok (false, b ∷ text)

-- Behind an item: whether the closing mark stands there, or `,`.
abbrev pub closing : ℕ → List ℕ → Read Bool
closing close [] = Err []
closing close (b ∷ text) = if b == close then Ok (true, text) else (if b == 0x2c then Ok (false, skip text) else Err (b ∷ text))

unfoldable pub closing_at : ℕ → List ℕ → Read Bool
closing_at close text = closing close (skip text)

unfoldable pub member_at : (List ℕ → Read Tree) → List ℕ → Read (List ℕ × Tree)
member_at value text = do
  name ← string_at true text
  m ← mark_at 0x3a name.1
  t ← value (skip m.1)
  Ok ((name.0, t.0), t.1)

-- one more item, or the end
abbrev pub next_item : {X : Type 0} → (List ℕ → Read X) → Bool → List ℕ → Read (Option X)
next_item read true text = Ok (None, text)
next_item read false text = read text >>= some_of

unfoldable pub more_item : {X : Type 0} → ℕ → (List ℕ → Read X) → Item X
more_item close read text = closing_at close text >>= λ b. next_item read b.0 b.1

-- the items behind the opening mark and spaces
abbrev pub items_behind : {X M : Type 0} → M → (X → M → M) → ℕ → (List ℕ → Read X) → Bool → List ℕ → Read M
items_behind nil cons close read true text = Ok (nil, text)
items_behind nil cons close read false text = do
  x ← read text
  m ← many_at nil cons (more_item close read) x.1
  Ok (cons x.0 m.0, m.1)

unfoldable pub items_at : {X M : Type 0} → M → (X → M → M) → ℕ → ℕ → (List ℕ → Read X) → List ℕ → Read M
items_at nil cons first close read text = do
  o ← byte_at first text
  c ← closed_at close (skip o.1)
  items_behind nil cons close read c.0 c.1

abbrev pub with_element : List ℕ × Tree → Elements → Elements
with_element e es = element e.0 e.1 es

unfoldable pub value_in : (List ℕ → Read Elements) → (List ℕ → Read Values) → List ℕ → Read Tree
value_in objects arrays text = kind_at text >>= λ k. value_of objects arrays k text

-- With so many levels of objects and arrays.
abbrev mutual
  pub object_at : ℕ → List ℕ → Read Elements
  object_at zero text = Err text
  object_at (suc levels) text = items_at no_elements with_element 0x7b 0x7d (member_at (value_in (object_at levels) (array_at levels))) text

  pub array_at : ℕ → List ℕ → Read Values
  array_at zero text = Err text
  array_at (suc levels) text = items_at no_values item 0x5b 0x5d (value_in (object_at levels) (array_at levels)) text

abbrev pub value_at : ℕ → List ℕ → Read Tree
value_at levels = value_in (object_at levels) (array_at levels)

-- a document, of at most 100 levels
unfoldable pub document_at : List ℕ → Read Elements
document_at text = object_at 100 text
