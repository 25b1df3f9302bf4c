use Rattle.std.proofs.Common.{◌≡◌, ◌+◌, ◌-◌, ◌≤◌}
use Rattle.mm_nstable.specs.Nodes.{count_of}
use Rattle.mm_records.specs.Stands.{ns_in}
use Rattle.mm_check.specs.Findings.{used_from, nodes_in}
use Rattle.mm_check.specs.Reports.{collections_of}
use Rattle.mm_check.proofs.report.collection_count.Given as goal

abbrev pub invariant-loop-node : goal.invariant-loop-node
invariant-loop-node l = record {
  left : l.collections + collections_of l.views.private (used_from (ns_in l.views.private) l.node (count_of (ns_in l.views.private) - l.node)) ≡ collections_of l.views.private (nodes_in l.views.private);
  few : l.collections ≤ l.node;
}
