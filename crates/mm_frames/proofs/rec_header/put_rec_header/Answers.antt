use Rattle.std.proofs.Common.{arith, rules, refl}
use Rattle.mm_base.proofs.Sets.{signed}
use Rattle.mm_base.proofs.TableLaws.{puts_table}
use Rattle.mm_frames.specs.RecHeader.{rec_header_table, rec_header_bytes, rec_header_of}
use Rattle.mm_frames.proofs.Again.{rec_header_is}
use Rattle.mm_frames.proofs.rec_header.put_rec_header.Goals as goal

pub returns : goal.returns
unfolding rec_header_bytes
returns c =
    let x = c.args.header.now in
    puts_table 16 rec_header_table rec_header_of c.args.at x c.args.bytes.now _ refl (search rules) (omega arith) (rec_header_is x _) (grind (arith, signed))
