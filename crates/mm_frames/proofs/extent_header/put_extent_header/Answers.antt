use Rattle.std.proofs.Common.{arith, rules, refl}
use Rattle.mm_base.proofs.Sets.{signed}
use Rattle.mm_base.proofs.TableLaws.{puts_table}
use Rattle.mm_frames.specs.ExtentHeader.{extent_header_table, extent_header_bytes, extent_header_of}
use Rattle.mm_frames.proofs.Again.{extent_header_is}
use Rattle.mm_frames.proofs.extent_header.put_extent_header.Goals as goal

pub returns : goal.returns
unfolding extent_header_bytes
returns c =
    let x = c.args.header.now in
    puts_table 176 extent_header_table extent_header_of c.args.at x c.args.bytes.now _ refl (search rules) (omega arith) (extent_header_is x _) (grind (arith, signed))
