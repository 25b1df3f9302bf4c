use Rattle.std.proofs.Common.{◌≡◌, ◌++◌, ◌-◌}
use Rattle.mm_nstable.specs.Nodes.{count_of}
use Rattle.mm_records.specs.Stands.{ns_in}
use Rattle.mm_check.specs.Findings.{used_from, nodes_in}
use Rattle.mm_check.proofs.nodes.used_nodes.Given as goal

abbrev pub invariant-loop-node : goal.invariant-loop-node
invariant-loop-node l = l.nodes.items ++ used_from (ns_in l.views.private) l.node (count_of (ns_in l.views.private) - l.node) ≡ nodes_in l.views.private
