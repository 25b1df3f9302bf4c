use Rattle.std.proofs.Common.{arith, rules}
use Rattle.mm_base.specs.Bytes.{part}
use Rattle.mm_base.specs.Fields.{i32_bytes}
use Rattle.mm_base.proofs.Sets.{signed}
use Rattle.mm_base.proofs.Numbers.{length-i32_bytes}
use Rattle.mm_base.proofs.Parts.{length-part, puts_field}
use Rattle.mm_frames.specs.RecHeader.{rec_header_of}
use Rattle.mm_frames.proofs.OneField.{next_ofs_changed}
use Rattle.mm_frames.proofs.rec_header.put_next_ofs.Goals as goal

pub returns : goal.returns
returns c =
    let old = c.args.bytes.now in
    puts_field 16 8 (i32_bytes c.args.next_ofs) rec_header_of c.args.at _ old _ (omega (arith, length-i32_bytes c.args.next_ofs)) c.requires
    (next_ofs_changed c.args.next_ofs (part c.args.at 16 old) (search rules) (length-part c.args.at 16 old c.requires)) (grind (arith, signed))
