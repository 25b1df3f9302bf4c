use Rattle.mm_main.proofs.FrameSteps.{rest_is_block}
use Rattle.mm_main.proofs.LayoutSteps.{block_of, takes_of, block_if_some}
use Rattle.mm_main.proofs.layout.is_rest.Goals as goal

pub returns : goal.returns
returns c = (
  λ yes. rest_is_block c.args.file.now c.args.at c.if-at-eq-FILE_LEN.false (block_of c.args.file.now c.args.at _ c.read_deleted_header.ensures (c.takes_rest.ensures.0 yes)),
  λ rest. c.takes_rest.ensures.1 (takes_of c.args.file.now c.args.at _ c.read_deleted_header.ensures (block_if_some c.args.file.now c.args.at c.if-at-eq-FILE_LEN.false rest)),
)
