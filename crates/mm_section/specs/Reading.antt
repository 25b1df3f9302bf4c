-- What the steps of the reader find at the front of some bytes, and what those of the writer leave.
use Rattle.std.specs.Prelude.{◌≡◌, ◌≢◌, ℕ, ◌+◌, ◌-◌, ◌^◌, ◌<◌, ◌≤◌, Bool, true, ◌&&◌, nat_lt, nat_le, ◌==◌, List, [], ◌∷◌, ◌++◌, length, map, take, drop, IsTrue}
use Rattle.std.specs.List.{list_all}
use Rattle.mm_base.specs.Bytes.{part, zeros}
use Rattle.mm_frames.specs.EntryHead.{entry_head_of}
use Rattle.mm_frames.specs.declared.entry_head.EntryHead.{EntryHead}
use Rattle.mm_frames.specs.Footer.{footer_bytes}
use Rattle.mm_frames.specs.SectionHeader.{section_header_of}
use Rattle.mm_frames.specs.declared.section_header.SectionHeader.{SectionHeader}
use Rattle.mm_ranges.specs.Limits.{is_rising, may_be_made, is_allowed}
use Rattle.mm_ranges.specs.Overlay.{ranges_of}
use Rattle.mm_ranges.specs.Places.{Range, is_normal}
use Rattle.mm_ranges.specs.declared.part.Piece.{Piece}
use Rattle.mm_ranges.specs.declared.part.Made.{Made}
use Rattle.mm_ranges.specs.declared.part.Part.{Part}
use Rattle.mm_section.specs.Spells.{Entry, Names, Makes, Puts, entry_bytes, entries_bytes, make_of, put_of, part_entries, parts_bytes, IsPart, AreParts, are_rising, is_db_name, hash_of, padding, sealed, sealed_len}

-- ---- what an entry's fields may be, so that its bytes give it back

abbrev pub HasNoZero : List ℕ → Type 0
HasNoZero [] = Unit {0}
HasNoZero (b ∷ bytes) = (b ≢ 0) × HasNoZero bytes

abbrev pub CanEntry : Entry → Type 0
CanEntry (Names name) = HasNoZero name
CanEntry (Makes file len) = (file < 2 ^ 32) × (len < 2 ^ 32)
CanEntry (Puts file at bytes) = ((file < 2 ^ 32) × (at < 2 ^ 32)) × ((0 < length bytes) × (length bytes ≤ 67108864))

abbrev pub AllCan : List Entry → Type 0
AllCan [] = Unit {0}
AllCan (e ∷ es) = CanEntry e × AllCan es

-- the places of a piece
abbrev pub range_of : Piece → Range
range_of p = (p.file, p.at, length p.bytes)

-- the part may stand in a section
abbrev pub is_part : Part → Bool
is_part part =
    is_db_name part.name
    && (nat_lt 0 (length part.made + length part.pieces)
    && (is_rising part.made
    && (list_all may_be_made part.made
    && (is_normal (ranges_of part.pieces) && list_all is_allowed (ranges_of part.pieces)))))

-- ---- entries at the front

-- these entries stand at the front, n bytes long
pub record Reads (entries : List Entry) (n : ℕ) (bytes : List ℕ) : Type 0 where
  pub inside : n ≤ length bytes
  pub is : bytes ≡ entries_bytes entries ++ drop n bytes
  pub can : AllCan entries

abbrev pub HasNoName : List ℕ → Type 0
HasNoName bytes = (name rest : List ℕ) → IsTrue (is_db_name name) → bytes ≡ entry_bytes (Names name) ++ rest → ⊥

abbrev pub HasNoMade : List ℕ → Type 0
HasNoMade bytes = (m : Made) (rest : List ℕ) → CanEntry (make_of m) → bytes ≡ entry_bytes (make_of m) ++ rest → ⊥

abbrev pub HasNoPiece : List ℕ → Type 0
HasNoPiece bytes = (p : Piece) (rest : List ℕ) → CanEntry (put_of p) → bytes ≡ entry_bytes (put_of p) ++ rest → ⊥

-- the head of a range stands at the front, and the range's bytes behind it
pub record IsHead (head : EntryHead) (bytes : List ℕ) : Type 0 where
  pub is : head ≡ entry_head_of (part 0 12 bytes)
  pub some : 0 < head.len
  pub short : head.len ≤ 67108864
  pub inside : head.len + 12 ≤ length bytes

-- these made files, and no more
pub record ReadsMade (made : List Made) (n : ℕ) (bytes : List ℕ) : Type 0 where
  pub reads : Reads (map make_of made) n bytes
  pub no_more : HasNoMade (drop n bytes)

-- these ranges, and no more
pub record ReadsPieces (pieces : List Piece) (n : ℕ) (bytes : List ℕ) : Type 0 where
  pub reads : Reads (map put_of pieces) n bytes
  pub no_more : HasNoPiece (drop n bytes)

-- a name, made files and ranges, and no more of these
pub record ReadsPart (part : Part) (n : ℕ) (bytes : List ℕ) : Type 0 where
  pub some : 0 < n
  pub reads : Reads (part_entries part) n bytes
  pub no_made : HasNoMade (entries_bytes (map put_of part.pieces) ++ drop n bytes)
  pub no_piece : HasNoPiece (drop n bytes)

-- no parts begin there
abbrev pub HasNoPart : List ℕ → Type 0
HasNoPart bytes = (part : Part) (parts : List Part) → IsPart part → AreParts parts → bytes ≡ parts_bytes (part ∷ parts) → ⊥

-- the bytes are these parts
pub record AreSpelled (parts : List Part) (bytes : List ℕ) : Type 0 where
  pub each : AreParts parts
  pub rising : IsTrue (are_rising parts)
  pub is : bytes ≡ parts_bytes parts

-- ---- the section round its entries

-- The footer and the padding of a section of this length are right.
pub record IsWhole (len : ℕ) (input : List ℕ) : Type 0 where
  pub inside : len + padding len ≤ length input
  pub footer : part (len - 32) 32 input ≡ footer_bytes (record { hash = hash_of (take (len - 32) input) })
  pub zero : part len (padding len) input ≡ zeros (padding len)

-- the header may be that of a section in the file with this id
abbrev pub is_possible : ℕ → SectionHeader → Bool
is_possible id header = header.file_id == id && (nat_lt header.number (2 ^ 64 - 1) && nat_le 52 header.len)

-- This header stands at the front, and the footer and the padding belong to it.
pub record IsSealed (id : ℕ) (header : SectionHeader) (input : List ℕ) : Type 0 where
  pub head : header ≡ section_header_of (part 0 20 input)
  pub short : header.len < 2 ^ 32
  pub possible : is_possible id header ≡ true
  pub whole : IsWhole header.len input

-- the entries of a section with this header
abbrev pub entries_in : SectionHeader → List ℕ → List ℕ
entries_in header input = part 20 (header.len - 52) input

-- no bytes stand sealed at the front
abbrev pub HasNoSeal : ℕ → List ℕ → Type 0
HasNoSeal id input = (number : ℕ) (entries rest : List ℕ) → number < 2 ^ 64 - 1 → sealed_len entries < 2 ^ 32 → input ≡ sealed number id entries ++ rest → ⊥

-- ---- the writer

-- what was there first is there still, whatever was appended
abbrev pub IsKept : List ℕ → List ℕ → Type 0
IsKept old new = take (length old) new ≡ old

-- the lengths of the ranges fit 32 bits
abbrev pub AreShort : List Piece → Type 0
AreShort [] = Unit {0}
AreShort (p ∷ ps) = (length p.bytes < 2 ^ 32) × AreShort ps

abbrev pub PartsShort : List Part → Type 0
PartsShort [] = Unit {0}
PartsShort (part ∷ parts) = AreShort part.pieces × PartsShort parts
