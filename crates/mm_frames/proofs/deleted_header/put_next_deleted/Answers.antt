use Rattle.std.proofs.Common.{arith}
use Rattle.mm_base.specs.Bytes.{part}
use Rattle.mm_base.specs.Places.{place_bytes}
use Rattle.mm_base.proofs.PlaceLaws.{length-place_bytes}
use Rattle.mm_base.proofs.Parts.{length-part, puts_field}
use Rattle.mm_frames.specs.DeletedHeader.{deleted_header_of}
use Rattle.mm_frames.proofs.OneField.{next_deleted_changed}
use Rattle.mm_frames.proofs.deleted_header.put_next_deleted.Goals as goal

pub returns : goal.returns
returns c =
    let old = c.args.bytes.now in
    puts_field 16 8 (place_bytes c.args.next_deleted) deleted_header_of c.args.at _ old _ (omega (arith, length-place_bytes c.args.next_deleted)) c.requires
    (next_deleted_changed c.args.next_deleted (part c.args.at 16 old) (length-part c.args.at 16 old c.requires)) c.put_place.ensures
