use Rattle.std.proofs.Common.{arith}
use Rattle.mm_base.specs.Bytes.{part}
use Rattle.mm_base.specs.Places.{place_bytes}
use Rattle.mm_base.proofs.PlaceLaws.{length-place_bytes}
use Rattle.mm_base.proofs.Parts.{length-part, puts_field}
use Rattle.mm_frames.specs.ExtentHeader.{extent_header_of}
use Rattle.mm_frames.proofs.OneField.{xnext_changed}
use Rattle.mm_frames.proofs.extent_header.put_xnext.Goals as goal

pub returns : goal.returns
returns c =
    let old = c.args.bytes.now in
    puts_field 176 12 (place_bytes c.args.xnext) extent_header_of c.args.at _ old _ (omega (arith, length-place_bytes c.args.xnext)) c.requires
    (xnext_changed c.args.xnext (part c.args.at 176 old) (length-part c.args.at 176 old c.requires)) c.put_place.ensures
