-- A bucket of which the parent alone is written.
use Rattle.std.proofs.Common.{ℕ, List, refl, ap, ◌∙◌, arith}
use Rattle.mm_base.specs.Bytes.{part, overwritten}
use Rattle.mm_base.specs.Places.{place_bytes}
use Rattle.mm_base.specs.declared.place.DiskLoc.{DiskLoc}
use Rattle.mm_base.proofs.PlaceLaws.{length-place_bytes}
use Rattle.mm_base.proofs.Parts.{length-part, length-overwritten, puts_field}
use Rattle.mm_frames.specs.BucketHeader.{bucket_header_of}
use Rattle.mm_frames.specs.declared.bucket_header.BucketHeader.{BucketHeader}
use Rattle.mm_frames.proofs.OneField.{parent_changed}
use Rattle.mm_bucket.specs.Pairs.{Contents}
use Rattle.mm_bucket.specs.Layout.{Spells}
use Rattle.mm_bucket.proofs.Heading.{laid_behind}

pub parent_written : (bytes : List ℕ) (b : Contents) (parent : DiskLoc) → Spells bytes b → Spells (overwritten 0 (place_bytes parent) bytes) (record b { parent = parent })
parent_written bytes b parent s =
    let field = place_bytes parent in
    let new = overwritten 0 field bytes in
    let whole = s.laid.whole in
    let len = length-place_bytes parent in
    let put = puts_field 40 0 field bucket_header_of 0 _ bytes new (omega (arith, len)) (omega (arith, whole)) (parent_changed parent (part 0 40 bytes) (length-part 0 40 bytes (omega (arith, whole)))) refl in
    record {
      header = put.again ∙ ap (λ (h : BucketHeader). record h { parent = parent }) s.header;
      laid = laid_behind bytes new _ b.pairs (length-overwritten 0 field bytes (omega (arith, len, whole)) ∙ whole) (λ q m low. put.elsewhere.behind q m (omega (arith, low, len))) s.laid;
    }
