use Rattle.std.proofs.Common.{arith, rules, refl}
use Rattle.mm_base.proofs.Sets.{signed}
use Rattle.mm_base.proofs.TableLaws.{puts_table}
use Rattle.mm_frames.specs.IndexPair.{index_pair_table, index_pair_bytes, index_pair_of}
use Rattle.mm_frames.proofs.Again.{index_pair_is}
use Rattle.mm_frames.proofs.index_pair.put_index_pair.Goals as goal

pub returns : goal.returns
unfolding index_pair_bytes
returns c =
    let x = c.args.pair.now in
    puts_table 16 index_pair_table index_pair_of c.args.at x c.args.bytes.now _ refl (search rules) (omega arith) (index_pair_is x _) (grind (arith, signed))
