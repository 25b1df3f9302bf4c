use Rattle.std.proofs.Common.{arith, ◌+◌, ◌*◌}
use Rattle.mm_base.specs.Bytes.{part}
use Rattle.mm_base.specs.Places.{place_bytes}
use Rattle.mm_base.proofs.PlaceLaws.{length-place_bytes}
use Rattle.mm_base.proofs.Parts.{length-part, puts_field}
use Rattle.mm_frames.specs.Details.{details_of}
use Rattle.mm_frames.proofs.OneField.{list_head_changed}
use Rattle.mm_frames.proofs.details.put_list_head.Goals as goal

pub returns : goal.returns
returns c =
    let old = c.args.bytes.now in
    puts_field 496 (16 + 8 * c.args.list) (place_bytes c.args.head) details_of c.args.at _ old _ (omega (arith, length-place_bytes c.args.head)) c.requires.inside
    (list_head_changed c.args.head c.args.list (part c.args.at 496 old) c.requires.there (length-part c.args.at 496 old c.requires.inside)) c.put_place.ensures
