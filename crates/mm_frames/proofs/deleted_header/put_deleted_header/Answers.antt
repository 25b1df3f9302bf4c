use Rattle.std.proofs.Common.{arith, rules, refl}
use Rattle.mm_base.proofs.Sets.{signed}
use Rattle.mm_base.proofs.TableLaws.{puts_table}
use Rattle.mm_frames.specs.DeletedHeader.{deleted_header_table, deleted_header_bytes, deleted_header_of}
use Rattle.mm_frames.proofs.Again.{deleted_header_is}
use Rattle.mm_frames.proofs.deleted_header.put_deleted_header.Goals as goal

pub returns : goal.returns
unfolding deleted_header_bytes
returns c =
    let x = c.args.header.now in
    puts_table 16 deleted_header_table deleted_header_of c.args.at x c.args.bytes.now _ refl (search rules) (omega arith) (deleted_header_is x _) (grind (arith, signed))
