-- A frame of which one field was written.
use Rattle.std.proofs.Common.{◌≡◌, ℕ, ℤ, ◌+◌, ◌*◌, ◌<◌, List, ◌++◌, length, ap, sym, ◌∙◌, arith}
use Rattle.std.specs.Int.{w32, w64}
use Rattle.std.specs.Prelude.{FitsSigned, slice_set}
use Rattle.mm_base.specs.Bytes.{part, overwritten}
use Rattle.mm_base.specs.Fields.{i32_bytes, i64_bytes}
use Rattle.mm_base.specs.Lists.{list_of}
use Rattle.mm_base.specs.Places.{place_of, place_bytes}
use Rattle.mm_base.specs.declared.place.DiskLoc.{DiskLoc}
use Rattle.mm_base.proofs.ListLaws.{list_set}
use Rattle.mm_base.proofs.Parts.{part_around, length-part, length-overwritten, overwritten_on}
use Rattle.mm_base.proofs.Numbers.{length-i64_bytes}
use Rattle.mm_base.proofs.PlaceLaws.{place_again, length-place_bytes}
use Rattle.mm_base.proofs.Sets.{one_field}
use Rattle.mm_frames.specs.RecHeader.{rec_header_of}
use Rattle.mm_frames.specs.DeletedHeader.{deleted_header_of}
use Rattle.mm_frames.specs.ExtentHeader.{extent_header_of}
use Rattle.mm_frames.specs.BucketHeader.{bucket_header_of}
use Rattle.mm_frames.specs.Details.{details_of}
use Rattle.mm_frames.specs.declared.details.Details.{Details}

pub next_ofs_changed : (v : ℤ) (frame : List ℕ) → FitsSigned w32 v → length frame ≡ 16 → rec_header_of (overwritten 8 (i32_bytes v) frame) ≡ record (rec_header_of frame) { next_ofs = v }
unfolding rec_header_of
next_ofs_changed v frame fits len = grind (arith, one_field)

pub prev_ofs_changed : (v : ℤ) (frame : List ℕ) → FitsSigned w32 v → length frame ≡ 16 → rec_header_of (overwritten 12 (i32_bytes v) frame) ≡ record (rec_header_of frame) { prev_ofs = v }
unfolding rec_header_of
prev_ofs_changed v frame fits len = grind (arith, one_field)

pub next_deleted_changed : (p : DiskLoc) (frame : List ℕ) → length frame ≡ 16 → deleted_header_of (overwritten 8 (place_bytes p) frame) ≡ record (deleted_header_of frame) { next_deleted = p }
unfolding deleted_header_of
next_deleted_changed p frame len = grind (arith, one_field)

pub xnext_changed : (p : DiskLoc) (frame : List ℕ) → length frame ≡ 176 → extent_header_of (overwritten 12 (place_bytes p) frame) ≡ record (extent_header_of frame) { xnext = p }
unfolding extent_header_of
xnext_changed p frame len = grind (arith, one_field)

pub xprev_changed : (p : DiskLoc) (frame : List ℕ) → length frame ≡ 176 → extent_header_of (overwritten 20 (place_bytes p) frame) ≡ record (extent_header_of frame) { xprev = p }
unfolding extent_header_of
xprev_changed p frame len = grind (arith, one_field)

pub first_record_changed : (p : DiskLoc) (frame : List ℕ) → length frame ≡ 176 → extent_header_of (overwritten 160 (place_bytes p) frame) ≡ record (extent_header_of frame) { first_record = p }
unfolding extent_header_of
first_record_changed p frame len = grind (arith, one_field)

pub last_record_changed : (p : DiskLoc) (frame : List ℕ) → length frame ≡ 176 → extent_header_of (overwritten 168 (place_bytes p) frame) ≡ record (extent_header_of frame) { last_record = p }
unfolding extent_header_of
last_record_changed p frame len = grind (arith, one_field)

pub parent_changed : (p : DiskLoc) (frame : List ℕ) → length frame ≡ 40 → bucket_header_of (overwritten 0 (place_bytes p) frame) ≡ record (bucket_header_of frame) { parent = p }
unfolding bucket_header_of
parent_changed p frame len = grind (arith, one_field)

pub list_head_changed : (p : DiskLoc) (i : ℕ) (frame : List ℕ) → i < 19 → length frame ≡ 496 → details_of (overwritten (16 + 8 * i) (place_bytes p) frame) ≡ record (details_of frame) { deleted = slice_set (details_of frame).deleted i p }
unfolding details_of
list_head_changed p i frame there len =
    let heads : list_of 8 place_of 19 (part 16 152 (overwritten (16 + 8 * i) (place_bytes p) frame)) ≡ slice_set (list_of 8 place_of 19 (part 16 152 frame)) i p =
    ap (list_of 8 place_of 19) (part_around 16 152 (8 * i) (place_bytes p) frame (omega (arith, length-place_bytes p)) (omega (arith, len)))
    ∙ list_set 8 19 i place_bytes place_of p (part 16 152 frame) (length-place_bytes p) (place_again p) there (omega (arith, length-part 16 152 frame, len)) in
    grind (arith, one_field)

datasize_changed : (v : ℤ) (frame : List ℕ) → FitsSigned w64 v → length frame ≡ 496 → details_of (overwritten 168 (i64_bytes v) frame) ≡ record (details_of frame) { datasize = v }
unfolding details_of
datasize_changed v frame fits len = grind (arith, one_field)

nrecords_changed : (v : ℤ) (frame : List ℕ) → FitsSigned w64 v → length frame ≡ 496 → details_of (overwritten 176 (i64_bytes v) frame) ≡ record (details_of frame) { nrecords = v }
unfolding details_of
nrecords_changed v frame fits len = grind (arith, one_field)

pub counts_changed : (v w : ℤ) (frame : List ℕ) → FitsSigned w64 v → FitsSigned w64 w → length frame ≡ 496 → details_of (overwritten 168 (i64_bytes v ++ i64_bytes w) frame) ≡ record (details_of frame) { datasize = v; nrecords = w }
counts_changed v w frame fits fits' len =
    let first = overwritten 168 (i64_bytes v) frame in
    let same : length first ≡ 496 = omega (arith, length-overwritten 168 (i64_bytes v) frame (omega (arith, length-i64_bytes v, len)), len) in
    ap details_of (sym (overwritten_on 168 8 (i64_bytes v) (i64_bytes w) frame (length-i64_bytes v) (omega (arith, len))))
    ∙ nrecords_changed w first fits' same
    ∙ ap (λ (d : Details). record d { nrecords = w }) (datasize_changed v frame fits len)
