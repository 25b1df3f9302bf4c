-- What sections lay over the database's files.
use Rattle.std.specs.Prelude.{ℕ, nat_lt, if◌then◌else◌, IsTrue, List, [], ◌∷◌, map}
use Rattle.mm_ranges.specs.declared.part.Made.{Made}
use Rattle.mm_ranges.specs.declared.part.Piece.{Piece}
use Rattle.mm_ranges.specs.declared.part.Part.{Part}
use Rattle.mm_section.specs.declared.section.Section.{Section}
use Rattle.mm_section.specs.Spells.{is_db_name}
use Rattle.mm_crash.specs.Overlay.{Entry, Makes, Puts}
use Rattle.mm_crash.specs.Journal.{entries_of_part, entries_of_parts}
use Rattle.mm_journal.specs.Real.{disk_name}

abbrev pub made_entry : List ℕ → Made → Entry
made_entry name m = record { file = disk_name name m.file; act = Makes m.len }

abbrev pub piece_entry : List ℕ → Piece → Entry
piece_entry name p = record { file = disk_name name p.file; act = Puts p.at p.bytes }

abbrev pub made_entries : List ℕ → List Made → List Entry
made_entries name made = map (made_entry name) made

abbrev pub piece_entries : List ℕ → List Piece → List Entry
piece_entries name pieces = map (piece_entry name) pieces

abbrev pub part_entries : Part → List Entry
part_entries part = entries_of_part disk_name part

abbrev pub parts_entries : List Part → List Entry
parts_entries parts = entries_of_parts disk_name parts

-- those of a section above this number
abbrev pub newer_entries : ℕ → Section → List Entry
newer_entries lsn section = if nat_lt lsn section.number then parts_entries section.parts else []

-- each part has a database's name
abbrev pub AreNamed : List Part → Type 0
AreNamed [] = Unit {0}
AreNamed (part ∷ parts) = IsTrue (is_db_name part.name) × AreNamed parts
