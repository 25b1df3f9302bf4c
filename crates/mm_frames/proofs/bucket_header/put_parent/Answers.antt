use Rattle.std.proofs.Common.{arith}
use Rattle.mm_base.specs.Bytes.{part}
use Rattle.mm_base.specs.Places.{place_bytes}
use Rattle.mm_base.proofs.PlaceLaws.{length-place_bytes}
use Rattle.mm_base.proofs.Parts.{length-part, puts_field}
use Rattle.mm_frames.specs.BucketHeader.{bucket_header_of}
use Rattle.mm_frames.proofs.OneField.{parent_changed}
use Rattle.mm_frames.proofs.bucket_header.put_parent.Goals as goal

pub returns : goal.returns
returns c =
    let old = c.args.bytes.now in
    puts_field 40 0 (place_bytes c.args.parent) bucket_header_of c.args.at _ old _ (omega (arith, length-place_bytes c.args.parent)) c.requires
    (parent_changed c.args.parent (part c.args.at 40 old) (length-part c.args.at 40 old c.requires)) c.put_place.ensures
