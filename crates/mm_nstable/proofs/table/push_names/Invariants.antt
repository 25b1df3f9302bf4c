use Rattle.std.proofs.Common.{◌≡◌, ◌++◌, take, map}
use Rattle.mm_nstable.specs.Nodes.{nodes_of}
use Rattle.mm_nstable.specs.Table.{entries_from}
use Rattle.mm_nstable.specs.Changes.{ns_of}
use Rattle.mm_nstable.proofs.table.push_names.Given as goal

abbrev pub invariant-loop-node : goal.invariant-loop-node
invariant-loop-node l = l.out.items ≡ l.initial.out.items ++ map (λ entry. (entry.0, entry.1.node)) (entries_from 0 (take l.node (nodes_of (ns_of l.draft))))
