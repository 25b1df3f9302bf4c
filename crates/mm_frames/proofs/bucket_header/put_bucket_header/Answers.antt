use Rattle.std.proofs.Common.{arith, rules, refl}
use Rattle.mm_base.proofs.Sets.{signed}
use Rattle.mm_base.proofs.TableLaws.{puts_table}
use Rattle.mm_frames.specs.BucketHeader.{bucket_header_table, bucket_header_bytes, bucket_header_of}
use Rattle.mm_frames.proofs.Again.{bucket_header_is}
use Rattle.mm_frames.proofs.bucket_header.put_bucket_header.Goals as goal

pub returns : goal.returns
unfolding bucket_header_bytes
returns c =
    let x = c.args.header.now in
    puts_table 40 bucket_header_table bucket_header_of c.args.at x c.args.bytes.now _ refl (search rules) (omega arith) (bucket_header_is x _) (grind (arith, signed))
