use Rattle.std.proofs.Common.{arith}
use Rattle.mm_base.specs.Bytes.{part}
use Rattle.mm_base.specs.Places.{place_bytes}
use Rattle.mm_base.proofs.PlaceLaws.{length-place_bytes}
use Rattle.mm_base.proofs.Parts.{length-part, puts_field}
use Rattle.mm_frames.specs.ExtentHeader.{extent_header_of}
use Rattle.mm_frames.proofs.OneField.{first_record_changed}
use Rattle.mm_frames.proofs.extent_header.put_first_record.Goals as goal

pub returns : goal.returns
returns c =
    let old = c.args.bytes.now in
    puts_field 176 160 (place_bytes c.args.first_record) extent_header_of c.args.at _ old _ (omega (arith, length-place_bytes c.args.first_record)) c.requires
    (first_record_changed c.args.first_record (part c.args.at 176 old) (length-part c.args.at 176 old c.requires)) c.put_place.ensures
