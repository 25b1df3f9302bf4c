use Rattle.std.proofs.Common.{refl}
use Rattle.mm_check.specs.Phases.{node_reading, node_chain}
use Rattle.mm_check.proofs.Chained.{pushed_map, mapped_all}
use Rattle.mm_check.proofs.chains.node_chains.Goals as goal

pub loop-i-preserved : goal.loop-i-preserved
loop-i-preserved c =
    pushed_map node_reading (node_chain c.args.views.now.private c.args.all.now) c.loop-i.chains.items _ c.args.nodes.now c.loop-i.i c.node_chain.result _ 0 c.loop-i.invariant c.loop-i-test.true refl c.in_ok-push.ensures.items c.node_chain.ensures

pub returns : goal.returns
returns c = mapped_all node_reading (node_chain c.args.views.now.private c.args.all.now) c.loop-i.chains.items c.args.nodes.now c.loop-i.i c.loop-i.invariant c.loop-i-test.false
