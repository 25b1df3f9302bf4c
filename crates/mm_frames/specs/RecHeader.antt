-- A record's header as 16 bytes, and back (MongoDB 2.6, MMAPv1: Record).
use Rattle.std.specs.Prelude.{ℕ, List, [], ◌∷◌}
use Rattle.mm_base.specs.Bytes.{part}
use Rattle.mm_base.specs.Fields.{i32_of}
use Rattle.mm_base.specs.Tables.{Cell, i32, joined}
use Rattle.mm_frames.specs.declared.rec_header.RecHeader.{RecHeader}

abbrev pub rec_header_table : RecHeader → List Cell
rec_header_table h =
    i32 0 h.length_with_headers
    ∷ i32 4 h.extent_ofs
    ∷ i32 8 h.next_ofs
    ∷ i32 12 h.prev_ofs
    ∷ []

unfoldable pub rec_header_bytes : RecHeader → List ℕ
rec_header_bytes h = joined (rec_header_table h)

unfoldable pub rec_header_of : List ℕ → RecHeader
rec_header_of bytes = record {
  length_with_headers = i32_of (part 0 4 bytes);
  extent_ofs = i32_of (part 4 4 bytes);
  next_ofs = i32_of (part 8 4 bytes);
  prev_ofs = i32_of (part 12 4 bytes);
}
