use Rattle.std.proofs.Common.{arith, rules, refl}
use Rattle.mm_base.proofs.Sets.{signed}
use Rattle.mm_base.proofs.TableLaws.{puts_table}
use Rattle.mm_frames.specs.FileHeader.{file_header_table, file_header_bytes, file_header_of}
use Rattle.mm_frames.proofs.Again.{file_header_is}
use Rattle.mm_frames.proofs.file_header.put_file_header.Goals as goal

pub returns : goal.returns
unfolding file_header_bytes
returns c =
    let x = c.args.header.now in
    puts_table 8192 file_header_table file_header_of c.args.at x c.args.bytes.now _ refl (search rules) (omega arith) (file_header_is x _) (grind (arith, signed))
