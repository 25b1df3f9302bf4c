-- A bucket's header as 40 bytes, and back (MongoDB 2.6, MMAPv1: BtreeBucket).
use Rattle.std.specs.Prelude.{ℕ, List, [], ◌∷◌}
use Rattle.mm_base.specs.Bytes.{part}
use Rattle.mm_base.specs.Fields.{u16_of, i32_of}
use Rattle.mm_base.specs.Places.{place_of}
use Rattle.mm_base.specs.Tables.{Cell, u16, i32, place, reserved, joined}
use Rattle.mm_frames.specs.declared.bucket_header.BucketHeader.{BucketHeader}

abbrev pub bucket_header_table : BucketHeader → List Cell
bucket_header_table h =
    place 0 h.parent
    ∷ place 8 h.next_child
    ∷ u16 16 h.was_size
    ∷ u16 18 h.reserved_size
    ∷ i32 20 h.flags
    ∷ i32 24 h.empty_size
    ∷ i32 28 h.top_size
    ∷ i32 32 h.n
    ∷ reserved 36 4
    ∷ []

unfoldable pub bucket_header_bytes : BucketHeader → List ℕ
bucket_header_bytes h = joined (bucket_header_table h)

unfoldable pub bucket_header_of : List ℕ → BucketHeader
bucket_header_of bytes = record {
  parent = place_of (part 0 8 bytes);
  next_child = place_of (part 8 8 bytes);
  was_size = u16_of (part 16 2 bytes);
  reserved_size = u16_of (part 18 2 bytes);
  flags = i32_of (part 20 4 bytes);
  empty_size = i32_of (part 24 4 bytes);
  top_size = i32_of (part 28 4 bytes);
  n = i32_of (part 32 4 bytes);
}
