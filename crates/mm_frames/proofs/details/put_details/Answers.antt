use Rattle.std.proofs.Common.{arith, rules, refl}
use Rattle.mm_base.proofs.Sets.{signed}
use Rattle.mm_base.proofs.TableLaws.{puts_table}
use Rattle.mm_frames.specs.Details.{details_table, details_bytes, details_of}
use Rattle.mm_frames.proofs.Again.{details_is, length-index_pairs_bytes}
use Rattle.mm_frames.proofs.details.put_details.Goals as goal

pub returns : goal.returns
unfolding details_bytes
returns c =
    let x = c.args.details.now in
    puts_table 496 details_table details_of c.args.at x c.args.bytes.now _ refl (search (rules, length-index_pairs_bytes)) (omega arith) (details_is x _ (search rules)) (grind (arith, signed))
