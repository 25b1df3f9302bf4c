-- How a section is spelled in a file of the journal (MongoDB 2.6's journal, with one section for one group commit).
use Rattle.std.specs.Prelude.{◌≡◌, ℕ, ◌+◌, ◌-◌, ◌%◌, ◌^◌, ◌<◌, ◌≤◌, Bool, true, ◌&&◌, ◌||◌, nat_le, nat_lt, ◌==◌, IsTrue, List, [], ◌∷◌, ◌++◌, length, map, take}
use Rattle.std.specs.List.{list_all}
use Rattle.std.specs.Ordering.{nat_cmp, is_lt}
use Rattle.std.specs.Cmp.Lexicographic.{slice_cmp}
use Rattle.mm_base.specs.Bytes.{zeros}
use Rattle.mm_base.specs.Fields.{u32_bytes}
use Rattle.mm_frames.specs.EntryHead.{entry_head_bytes, made_entry_bytes}
use Rattle.mm_frames.specs.Footer.{footer_bytes}
use Rattle.mm_frames.specs.SectionHeader.{section_header_bytes}
use Rattle.mm_ranges.specs.Limits.{IsAllowed}
use Rattle.mm_ranges.specs.declared.part.Piece.{Piece}
use Rattle.mm_ranges.specs.declared.part.Made.{Made}
use Rattle.mm_ranges.specs.declared.part.Part.{Part}
use Rattle.mm_section.specs.declared.section.Section.{Section}
use Rattle.md5.specs.Md5.{md5}

-- ---- the entries: a database's name, a file of it that was made, and bytes at a place of a file

pub data Entry : Type 0 where
  Names : (name : List ℕ) → Entry
  Makes : (file len : ℕ) → Entry
  Puts : (file at : ℕ) (bytes : List ℕ) → Entry

abbrev pub entry_bytes : Entry → List ℕ
entry_bytes (Names name) = u32_bytes 0xfffffffe ++ (name ++ 0 ∷ [])
entry_bytes (Makes file len) = made_entry_bytes (record { file = file; len = len })
entry_bytes (Puts file at bytes) = entry_head_bytes (record { len = length bytes; ofs = at; file = file }) ++ bytes

abbrev pub entries_bytes : List Entry → List ℕ
entries_bytes [] = []
entries_bytes (e ∷ es) = entry_bytes e ++ entries_bytes es

abbrev pub make_of : Made → Entry
make_of m = Makes m.file m.len

abbrev pub put_of : Piece → Entry
put_of p = Puts p.file p.at p.bytes

-- a database's name, the files that were made, and the ranges
abbrev pub part_entries : Part → List Entry
part_entries part = Names part.name ∷ (map make_of part.made ++ map put_of part.pieces)

abbrev pub parts_entries : List Part → List Entry
parts_entries [] = []
parts_entries (part ∷ parts) = part_entries part ++ parts_entries parts

abbrev pub parts_bytes : List Part → List ℕ
parts_bytes parts = entries_bytes (parts_entries parts)

-- ---- the section: header, entries, footer, and zeros up to a multiple of 8192 bytes

-- the section's MD5, of the bytes before its footer; opaque, so that no proof computes a hash
unfoldable pub hash_of : List ℕ → List ℕ
hash_of bytes = md5 bytes

-- from the header to the end of the footer
abbrev pub sealed_len : List ℕ → ℕ
sealed_len entries = 20 + length entries + 32

abbrev pub padding : ℕ → ℕ
padding len = (8192 - len % 8192) % 8192

-- the header and the entries
abbrev pub front_bytes : ℕ → ℕ → List ℕ → List ℕ
front_bytes number id entries = section_header_bytes (record { len = sealed_len entries; number = number; file_id = id }) ++ entries

-- behind such a front
abbrev pub back_bytes : List ℕ → ℕ → List ℕ
back_bytes front len = footer_bytes (record { hash = hash_of front }) ++ zeros (padding len)

abbrev pub sealed : ℕ → ℕ → List ℕ → List ℕ
sealed number id entries = front_bytes number id entries ++ back_bytes (front_bytes number id entries) (sealed_len entries)

-- the spelling of a section in the file with this id
abbrev pub section_bytes : ℕ → Section → List ℕ
section_bytes id section = sealed section.number id (parts_bytes section.parts)

-- ---- which sections are spelled

abbrev pub is_letter : ℕ → Bool
is_letter b = (nat_le 0x61 b && nat_le b 0x7a) || ((nat_le 0x30 b && nat_le b 0x39) || b == 0x5f)

-- a database's name: 1 to 16 letters a to z, digits and underscores
abbrev pub is_db_name : List ℕ → Bool
is_db_name name = nat_lt 0 (length name) && (nat_le (length name) 16 && list_all is_letter name)

-- the name comes before that of the first of these, byte by byte
abbrev pub is_first : List ℕ → List Part → Bool
is_first name [] = true
is_first name (part ∷ parts) = is_lt (slice_cmp nat_cmp name part.name)

abbrev pub are_rising : List Part → Bool
are_rising [] = true
are_rising (part ∷ parts) = is_first part.name parts && are_rising parts

-- what may stand under one name: at least one entry, within the limits, in rising order
pub record IsPart (part : Part) : Type 0 where
  pub name : IsTrue (is_db_name part.name)
  pub some : 0 < length part.made + length part.pieces
  pub allowed : IsAllowed part

abbrev pub AreParts : List Part → Type 0
AreParts [] = Unit {0}
AreParts (part ∷ parts) = IsPart part × AreParts parts

pub record IsSpellable (section : Section) : Type 0 where
  pub number : section.number < 2 ^ 64 - 1
  pub parts : AreParts section.parts
  pub rising : IsTrue (are_rising section.parts)
  pub short : sealed_len (parts_bytes section.parts) < 2 ^ 32

-- these bytes spell the section in the file with this id
pub record Spells (section : Section) (id : ℕ) (bytes : List ℕ) : Type 0 where
  pub spellable : IsSpellable section
  pub is : bytes ≡ section_bytes id section

-- the first n bytes spell the section
pub record Begins (section : Section) (id n : ℕ) (input : List ℕ) : Type 0 where
  pub inside : n ≤ length input
  pub spells : Spells section id (take n input)

-- no section is spelled at the front
abbrev pub HasNone : ℕ → List ℕ → Type 0
HasNone id input = (section : Section) (n : ℕ) → Begins section id n input → ⊥
