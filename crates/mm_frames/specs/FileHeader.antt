-- A data file's header as 8192 bytes, and back (MongoDB 2.6, MMAPv1: DataFileHeader).
use Rattle.std.specs.Prelude.{ℕ, List, [], ◌∷◌}
use Rattle.mm_base.specs.Bytes.{part}
use Rattle.mm_base.specs.Fields.{u32_of}
use Rattle.mm_base.specs.Places.{place_of}
use Rattle.mm_base.specs.Tables.{Cell, u32, place, reserved, joined}
use Rattle.mm_frames.specs.declared.file_header.FileHeader.{FileHeader}

abbrev pub file_header_table : FileHeader → List Cell
file_header_table h =
    u32 0 h.version
    ∷ u32 4 h.version_minor
    ∷ u32 8 h.file_length
    ∷ place 12 h.unused
    ∷ u32 20 h.unused_length
    ∷ reserved 24 8168
    ∷ []

unfoldable pub file_header_bytes : FileHeader → List ℕ
file_header_bytes h = joined (file_header_table h)

unfoldable pub file_header_of : List ℕ → FileHeader
file_header_of bytes = record {
  version = u32_of (part 0 4 bytes);
  version_minor = u32_of (part 4 4 bytes);
  file_length = u32_of (part 8 4 bytes);
  unused = place_of (part 12 8 bytes);
  unused_length = u32_of (part 20 4 bytes);
}
