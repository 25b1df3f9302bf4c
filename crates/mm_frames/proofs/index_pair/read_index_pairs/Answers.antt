use Rattle.std.proofs.Common.{arith}
use Rattle.mm_base.proofs.ListLaws.{list_read}
use Rattle.mm_frames.specs.IndexPair.{index_pair_of}
use Rattle.mm_frames.proofs.Again.{null_pair}
use Rattle.mm_frames.proofs.index_pair.read_index_pairs.Goals as goal

pub returns : goal.returns
returns g c = list_read 16 g.row.N index_pair_of c.args.at c.args.bytes.now c.loop-i.pairs null_pair c.loop-i.invariant.0 (λ k lt. c.loop-i.invariant.1 k null_pair (omega arith))
