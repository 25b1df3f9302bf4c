use Rattle.std.proofs.Common.{◌≡◌, ◌+◌, ◌-◌, ◌≤◌, ◌^◌}
use Rattle.std.specs.Prelude.{min}
use Rattle.mm_nstable.specs.Nodes.{count_of}
use Rattle.mm_records.specs.Stands.{ns_in}
use Rattle.mm_check.specs.Findings.{used_from, nodes_in}
use Rattle.mm_check.specs.Reports.{told_of}
use Rattle.mm_check.proofs.report.told_count.Given as goal

abbrev pub invariant-loop-node : goal.invariant-loop-node
invariant-loop-node l = record {
  left : min (l.documents + told_of l.views.private (used_from (ns_in l.views.private) l.node (count_of (ns_in l.views.private) - l.node))) (2 ^ 64 - 1) ≡ min (told_of l.views.private (nodes_in l.views.private)) (2 ^ 64 - 1);
  fits : l.documents ≤ 2 ^ 64 - 1;
}
