-- The counts and the constant fields of details: phase 9 of the check.
use Rattle.std.specs.Prelude.{ℕ, ℤ, pos, negsuc, ◌-◌, Bool, false, ◌&&◌, ◌||◌, ◌==◌, nat_lt, if◌then◌else◌, List, length, drop, sum_by, Option, Some, None}
use Rattle.std.specs.List.{list_all}
use Rattle.mm_ranges.specs.Overlay.{Image}
use Rattle.mm_frames.specs.declared.details.TheConstants.{PADDING}
use Rattle.mm_frames.specs.declared.details.Details.{Details}
use Rattle.mm_frames.specs.declared.index_pair.IndexPair.{IndexPair}
use Rattle.mm_links.specs.Links.{Place, last_of}
use Rattle.mm_records.specs.Constants.{is_collection}
use Rattle.mm_check.specs.RecordChain.{is_pos, is_minus_one}
use Rattle.mm_check.specs.ExtentChain.{nat_of, ext_size}
use Rattle.mm_check.specs.BlockQuestions.{block_len}

-- ---- constant fields

-- no more than ten indexes, and none where the node is no collection's
abbrev pub is_index_count : List ℕ → ℤ → Bool
is_index_count name (pos n) = nat_lt n 11 && (is_collection name || (n == 0))
is_index_count name (negsuc n) = false

abbrev pub is_spare : IndexPair → Bool
is_spare p = is_minus_one p.head.file && is_minus_one p.info.file

abbrev pub flag_is : List ℕ → ℤ → Bool
flag_is name z = is_pos z (if is_collection name then 1 else 0)

-- it isn't capped, and names no capped extent and record
abbrev pub is_uncapped : Details → Bool
is_uncapped d = is_pos d.is_capped 0 && (is_pos d.max_docs_in_capped 0x7fffffff && (is_minus_one d.cap_extent.file && is_minus_one d.cap_first_new_record.file))

-- it has no versions, no multikey index, no extra part, and no index is being built
abbrev pub is_plain : Details → Bool
is_plain d = (d.data_file_version == 0) && ((d.index_file_version == 0) && ((d.multikey == 0) && (is_pos d.extra_offset 0 && is_pos d.index_builds 0)))

-- the fields that don't count indexes
abbrev pub others_right : List ℕ → Details → Bool
others_right name d = is_uncapped d && ((d.padding == PADDING) && (flag_is name d.system_flags && (flag_is name d.user_flags && is_plain d)))

abbrev pub constants_right : List ℕ → Details → Bool
constants_right name d = is_index_count name d.n_indexes && (list_all is_spare (drop (nat_of d.n_indexes) d.indexes) && others_right name d)

-- ---- counts

-- the length of the last extent, 0 where there is none
abbrev pub last_size : Image → Option Place → ℕ
last_size image None = 0
last_size image (Some e) = ext_size image e

-- Of a node with these extents and these live records the details count the records, their bytes behind their headers, and the bytes of
-- the last extent; and the constant fields are right.
abbrev pub counts_right : Image → List ℕ → Details → List Place → List Place → Bool
counts_right image name d extents records = is_pos d.nrecords (length records) && (is_pos d.datasize (sum_by (λ p. block_len image p - 16) records)
    && (is_pos d.last_extent_size (last_size image (last_of extents)) && constants_right name d))
