use Rattle.std.proofs.Common.{◌≡◌, map, take}
use Rattle.mm_check.specs.Phases.{node_reading, node_chain}
use Rattle.mm_check.proofs.chains.node_chains.Given as goal

abbrev pub invariant-loop-i : goal.invariant-loop-i
invariant-loop-i l = map node_reading l.chains.items ≡ map (node_chain l.views.private l.all) (take l.i l.nodes)
