-- The table of a frame: its fields in their order, each with its offset and its value.
use Rattle.std.specs.Prelude.{◌≡◌, ℕ, ℤ, ◌+◌, ◌*◌, ◌^◌, ◌<◌, Bool, ◌&&◌, ◌==◌, List, [], ◌∷◌, ◌++◌, length, if◌then◌else◌, FitsSigned}
use Rattle.std.specs.Int.{w32, w64}
use Rattle.mm_base.specs.Bytes.{part, overwritten, zeros}
use Rattle.mm_base.specs.Fields.{u16_of, u32_of, u64_of, i32_of, i64_of, u16_bytes, u32_bytes, u64_bytes, i32_bytes, i64_bytes}
use Rattle.mm_base.specs.Lists.{list_of, list_bytes}
use Rattle.mm_base.specs.Places.{place_of, place_bytes}
use Rattle.mm_base.specs.declared.place.DiskLoc.{DiskLoc}

-- A field: its offset, for some fields its count or width, and its value.
pub data Cell : Type 0 where
  u16 : ℕ → ℕ → Cell
  u32 : ℕ → ℕ → Cell
  u64 : ℕ → ℕ → Cell
  i32 : ℕ → ℤ → Cell
  i64 : ℕ → ℤ → Cell
  place : ℕ → DiskLoc → Cell
  places : ℕ → ℕ → List DiskLoc → Cell
  cell : ℕ → ℕ → List ℕ → Cell
  reserved : ℕ → ℕ → Cell

abbrev pub offset : Cell → ℕ
offset (u16 at n) = at
offset (u32 at n) = at
offset (u64 at n) = at
offset (i32 at z) = at
offset (i64 at z) = at
offset (place at p) = at
offset (places at count ps) = at
offset (cell at w bytes) = at
offset (reserved at w) = at

abbrev pub width : Cell → ℕ
width (u16 at n) = 2
width (u32 at n) = 4
width (u64 at n) = 8
width (i32 at z) = 4
width (i64 at z) = 8
width (place at p) = 8
width (places at count ps) = 8 * count
width (cell at w bytes) = w
width (reserved at w) = w

-- the bytes of a field; reserved ones are zero
abbrev pub spelling : Cell → List ℕ
spelling (u16 at n) = u16_bytes n
spelling (u32 at n) = u32_bytes n
spelling (u64 at n) = u64_bytes n
spelling (i32 at z) = i32_bytes z
spelling (i64 at z) = i64_bytes z
spelling (place at p) = place_bytes p
spelling (places at count ps) = list_bytes place_bytes ps
spelling (cell at w bytes) = bytes
spelling (reserved at w) = zeros w

-- the value is one of the field's type
abbrev pub InRange : Cell → Type 0
InRange (u16 at n) = n < 2 ^ 16
InRange (u32 at n) = n < 2 ^ 32
InRange (u64 at n) = n < 2 ^ 64
InRange (i32 at z) = FitsSigned w32 z
InRange (i64 at z) = FitsSigned w64 z
InRange (place at p) = Unit {0}
InRange (places at count ps) = length ps ≡ count
InRange (cell at w bytes) = length bytes ≡ w
InRange (reserved at w) = Unit {0}

-- these bytes have the value in this field; a null place has any offset
abbrev pub Has : List ℕ → Cell → Type 0
Has bytes (u16 at n) = u16_of (part at 2 bytes) ≡ n
Has bytes (u32 at n) = u32_of (part at 4 bytes) ≡ n
Has bytes (u64 at n) = u64_of (part at 8 bytes) ≡ n
Has bytes (i32 at z) = i32_of (part at 4 bytes) ≡ z
Has bytes (i64 at z) = i64_of (part at 8 bytes) ≡ z
Has bytes (place at p) = place_of (part at 8 bytes) ≡ p
Has bytes (places at count ps) = list_of 8 place_of count (part at (8 * count) bytes) ≡ ps
Has bytes (cell at w value) = part at w bytes ≡ value
Has bytes (reserved at w) = part at w bytes ≡ zeros w

abbrev pub AllInRange : List Cell → Type 0
AllInRange [] = Unit {0}
AllInRange (c ∷ cs) = InRange c × AllInRange cs

-- these bytes have each value of the table
abbrev pub HasAll : List ℕ → List Cell → Type 0
HasAll bytes [] = Unit {0}
HasAll bytes (c ∷ cs) = Has bytes c × HasAll bytes cs

-- the bytes of the fields, one behind the other
unfoldable pub joined : List Cell → List ℕ
joined [] = []
joined (c ∷ cs) = spelling c ++ joined cs

-- each field begins where the one before it ends, and the last ends at n
abbrev pub tiles : ℕ → List Cell → ℕ → Bool
tiles at [] n = at == n
tiles at (c ∷ cs) n = (offset c == at) && tiles (at + width c) cs n

-- where a field begins in a buffer
abbrev pub place_in : ℕ → ℕ → ℕ
place_in at ofs = if ofs == 0 then at else at + ofs

-- the fields written in their order
abbrev pub written : ℕ → List Cell → List ℕ → List ℕ
written at [] bytes = bytes
written at (c ∷ cs) bytes = written at cs (overwritten (place_in at (offset c)) (spelling c) bytes)
