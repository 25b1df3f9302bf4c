-- The journal's sections, headers and numbers as they are written, for the theory of crashes.
use Rattle.std.specs.Prelude.{ℕ, ◌+◌, ◌-◌, ◌^◌, Bool, true, false, ◌&&◌, nat_lt, ◌==◌, if◌then◌else◌, List, ◌∷◌, ◌++◌, replicate, codes}
use Rattle.std.specs.Fmt.{decimal}
use Rattle.std.specs.List.{list_all}
use Rattle.mm_frames.specs.Lsn.{lsn_bytes}
use Rattle.mm_frames.specs.JournalHeader.{header_kind}
use Rattle.mm_frames.specs.declared.journal_header.HeaderKind.{HeaderKind}
use Rattle.mm_frames.specs.declared.journal_header.HeaderKind.TheVariants.{Ours, Foreign, Broken}
use Rattle.mm_jfiles.specs.Names.{journal_name}
use Rattle.mm_ranges.specs.Limits.{ns_file}
use Rattle.mm_section.specs.declared.section.Section.{Section}
use Rattle.mm_section.specs.Spells.{parts_bytes, sealed_len, are_rising}
use Rattle.mm_section.specs.Reading.{is_part}

-- the section is spelled
abbrev pub can_spell : Section → Bool
can_spell s = nat_lt s.number (2 ^ 64 - 1) && (list_all is_part s.parts && (are_rising s.parts && nat_lt (sealed_len (parts_bytes s.parts)) (2 ^ 32)))

abbrev pub is_broken_kind : HeaderKind → Bool
is_broken_kind Ours = false
is_broken_kind Foreign = false
is_broken_kind Broken = true

-- the file of number n is to have the id n + 1
abbrev pub is_broken : ℕ → List ℕ → Bool
is_broken n bytes = is_broken_kind (header_kind (n + 1) bytes)

-- The lsn file of a number. One past 64 bits has none: what stands for it begins with the number itself, which is no byte.
abbrev pub number_bytes : ℕ → List ℕ
number_bytes n = if nat_lt n (2 ^ 64) then lsn_bytes n else n ∷ replicate 87 0

-- ---- names

-- A number past 32 bits has no file. It has a name all the same, which no file of the disk has.
abbrev pub file_name : ℕ → List ℕ
file_name n = if nat_lt n (2 ^ 32) then journal_name n else replicate n 0

-- a database's file: `NAME.ns`, or `NAME.` and its number
abbrev pub disk_name : List ℕ → ℕ → List ℕ
disk_name name file = if file == ns_file then name ++ codes ".ns" else name ++ codes "." ++ decimal file
