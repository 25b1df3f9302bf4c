use Rattle.std.proofs.Common.{◌≡◌, ◌≤◌, take}
use Rattle.std.specs.Prelude.{count_by}
use Rattle.mm_nstable.specs.Nodes.{nodes_of, is_free}
use Rattle.mm_nstable.specs.Changes.{ns_of}
use Rattle.mm_nstable.proofs.table.free_nodes.Given as goal

abbrev pub invariant-loop-node : goal.invariant-loop-node
invariant-loop-node l = (l.free ≡ count_by is_free (take l.node (nodes_of (ns_of l.draft)))) × (l.free ≤ l.node)
