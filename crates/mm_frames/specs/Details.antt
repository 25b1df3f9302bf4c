-- The details of a namespace as 496 bytes, and back (MongoDB 2.6, MMAPv1: NamespaceDetails).
use Rattle.std.specs.Prelude.{ℕ, List, [], ◌∷◌}
use Rattle.mm_base.specs.Bytes.{part}
use Rattle.mm_base.specs.Fields.{u16_of, u64_of, i32_of, i64_of}
use Rattle.mm_base.specs.Lists.{list_of, list_bytes}
use Rattle.mm_base.specs.Tables.{Cell, u16, u64, i32, i64, place, places, cell, reserved, joined}
use Rattle.mm_base.specs.Places.{place_of}
use Rattle.mm_frames.specs.IndexPair.{index_pair_of, index_pair_bytes}
use Rattle.mm_frames.specs.declared.details.Details.{Details}

abbrev pub details_table : Details → List Cell
details_table d =
    place 0 d.first_extent
    ∷ place 8 d.last_extent
    ∷ places 16 19 d.deleted
    ∷ i64 168 d.datasize
    ∷ i64 176 d.nrecords
    ∷ i32 184 d.last_extent_size
    ∷ i32 188 d.n_indexes
    ∷ cell 192 160 (list_bytes index_pair_bytes d.indexes)
    ∷ i32 352 d.is_capped
    ∷ i32 356 d.max_docs_in_capped
    ∷ u64 360 d.padding
    ∷ i32 368 d.system_flags
    ∷ place 372 d.cap_extent
    ∷ place 380 d.cap_first_new_record
    ∷ u16 388 d.data_file_version
    ∷ u16 390 d.index_file_version
    ∷ u64 392 d.multikey
    ∷ reserved 400 8
    ∷ i64 408 d.extra_offset
    ∷ i32 416 d.index_builds
    ∷ i32 420 d.user_flags
    ∷ reserved 424 72
    ∷ []

unfoldable pub details_bytes : Details → List ℕ
details_bytes d = joined (details_table d)

unfoldable pub details_of : List ℕ → Details
details_of bytes = record {
  first_extent = place_of (part 0 8 bytes);
  last_extent = place_of (part 8 8 bytes);
  deleted = list_of 8 place_of 19 (part 16 152 bytes);
  datasize = i64_of (part 168 8 bytes);
  nrecords = i64_of (part 176 8 bytes);
  last_extent_size = i32_of (part 184 4 bytes);
  n_indexes = i32_of (part 188 4 bytes);
  indexes = list_of 16 index_pair_of 10 (part 192 160 bytes);
  is_capped = i32_of (part 352 4 bytes);
  max_docs_in_capped = i32_of (part 356 4 bytes);
  padding = u64_of (part 360 8 bytes);
  system_flags = i32_of (part 368 4 bytes);
  cap_extent = place_of (part 372 8 bytes);
  cap_first_new_record = place_of (part 380 8 bytes);
  data_file_version = u16_of (part 388 2 bytes);
  index_file_version = u16_of (part 390 2 bytes);
  multikey = u64_of (part 392 8 bytes);
  extra_offset = i64_of (part 408 8 bytes);
  index_builds = i32_of (part 416 4 bytes);
  user_flags = i32_of (part 420 4 bytes);
}
