use Rattle.mm_check.specs.ExtentChain.{chain_reading}
use Rattle.mm_check.proofs.chains.node_chain.Goals as goal

pub returns : goal.returns
returns c =
    λ j. chain_reading c.args.views.now.private c.args.all.now (c.node_head-head.ensures j).name (2147483647, c.node_ofs.ensures.is j) (c.node_details-details.ensures j).first_extent (c.node_details-details.ensures j).last_extent
