use Rattle.std.proofs.Common.{arith}
use Rattle.mm_nstable.specs.Changes.{ns_of}
use Rattle.mm_nstable.proofs.FreeNodes.{none_past}
use Rattle.mm_nstable.proofs.free_chain.free_node.Goals as goal

pub unreachable-requires : goal.unreachable-requires
unreachable-requires c =
    let count = c.node_count-node-end.ensures in
    let past = c.loop-node-test.false in
    none_past (ns_of c.args.draft.now) c.requires.there.0 c.requires.there.1.0 c.loop-node.node c.requires.there.1.1 (omega (arith, count, past)) c.loop-node.invariant
