-- A deleted block's header as 16 bytes, and back (MongoDB 2.6, MMAPv1: DeletedRecord).
use Rattle.std.specs.Prelude.{ℕ, List, [], ◌∷◌}
use Rattle.mm_base.specs.Bytes.{part}
use Rattle.mm_base.specs.Fields.{i32_of}
use Rattle.mm_base.specs.Places.{place_of}
use Rattle.mm_base.specs.Tables.{Cell, i32, place, joined}
use Rattle.mm_frames.specs.declared.deleted_header.DeletedHeader.{DeletedHeader}

abbrev pub deleted_header_table : DeletedHeader → List Cell
deleted_header_table h =
    i32 0 h.length_with_headers
    ∷ i32 4 h.extent_ofs
    ∷ place 8 h.next_deleted
    ∷ []

unfoldable pub deleted_header_bytes : DeletedHeader → List ℕ
deleted_header_bytes h = joined (deleted_header_table h)

unfoldable pub deleted_header_of : List ℕ → DeletedHeader
deleted_header_of bytes = record {
  length_with_headers = i32_of (part 0 4 bytes);
  extent_ofs = i32_of (part 4 4 bytes);
  next_deleted = place_of (part 8 8 bytes);
}
