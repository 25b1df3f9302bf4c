-- The front of a journal's section as 20 bytes, and back (MongoDB 2.6's journal: JSectHeader).
use Rattle.std.specs.Prelude.{ℕ, List, [], ◌∷◌}
use Rattle.mm_base.specs.Bytes.{part}
use Rattle.mm_base.specs.Fields.{u32_of, u64_of}
use Rattle.mm_base.specs.Tables.{Cell, u32, u64, joined}
use Rattle.mm_frames.specs.declared.section_header.SectionHeader.{SectionHeader}

abbrev pub section_header_table : SectionHeader → List Cell
section_header_table h =
    u32 0 h.len
    ∷ u64 4 h.number
    ∷ u64 12 h.file_id
    ∷ []

unfoldable pub section_header_bytes : SectionHeader → List ℕ
section_header_bytes h = joined (section_header_table h)

unfoldable pub section_header_of : List ℕ → SectionHeader
section_header_of bytes = record {
  len = u32_of (part 0 4 bytes);
  number = u64_of (part 4 8 bytes);
  file_id = u64_of (part 12 8 bytes);
}
