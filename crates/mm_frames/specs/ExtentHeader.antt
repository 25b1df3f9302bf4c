-- An extent's header as 176 bytes, and back (MongoDB 2.6, MMAPv1: Extent).
use Rattle.std.specs.Prelude.{ℕ, List, [], ◌∷◌}
use Rattle.mm_base.specs.Bytes.{part}
use Rattle.mm_base.specs.Fields.{u32_of, i32_of}
use Rattle.mm_base.specs.Places.{place_of}
use Rattle.mm_base.specs.Tables.{Cell, u32, i32, place, cell, joined}
use Rattle.mm_frames.specs.declared.extent_header.ExtentHeader.{ExtentHeader}

abbrev pub extent_header_table : ExtentHeader → List Cell
extent_header_table h =
    u32 0 h.magic
    ∷ place 4 h.my_loc
    ∷ place 12 h.xnext
    ∷ place 20 h.xprev
    ∷ cell 28 128 h.namespace
    ∷ i32 156 h.len
    ∷ place 160 h.first_record
    ∷ place 168 h.last_record
    ∷ []

unfoldable pub extent_header_bytes : ExtentHeader → List ℕ
extent_header_bytes h = joined (extent_header_table h)

unfoldable pub extent_header_of : List ℕ → ExtentHeader
extent_header_of bytes = record {
  magic = u32_of (part 0 4 bytes);
  my_loc = place_of (part 4 8 bytes);
  xnext = place_of (part 12 8 bytes);
  xprev = place_of (part 20 8 bytes);
  namespace = part 28 128 bytes;
  len = i32_of (part 156 4 bytes);
  first_record = place_of (part 160 8 bytes);
  last_record = place_of (part 168 8 bytes);
}
