use Rattle.std.proofs.Common.{arith, ap, ◌∙◌, ◌+◌, ◌*◌}
use Rattle.mm_base.specs.Bytes.{overwritten}
use Rattle.mm_base.proofs.ListLaws.{list_written_none, list_written_more}
use Rattle.mm_frames.specs.IndexPair.{index_pair_bytes}
use Rattle.mm_frames.specs.declared.index_pair.IndexPair.{IndexPair}
use Rattle.mm_frames.proofs.Again.{length-index_pair_bytes}
use Rattle.mm_frames.proofs.index_pair.put_index_pairs.Goals as goal

pub loop-i-init : goal.loop-i-init
loop-i-init c = list_written_none index_pair_bytes c.args.at c.args.bytes.now

pub loop-i-preserved : goal.loop-i-preserved
loop-i-preserved c = list_written_more 16 index_pair_bytes c.args.at c.loop-i.i c.args.pairs.now c.index-pairs-i.result c.args.bytes.now c.loop-i.bytes _ length-index_pair_bytes (omega arith) (omega arith) c.loop-i.invariant
    (c.put_index_pair.ensures.spelled ∙ ap (λ (p : IndexPair). overwritten (c.args.at + 16 * c.loop-i.i) (index_pair_bytes p) c.loop-i.bytes) c.index-pairs-i.is)
