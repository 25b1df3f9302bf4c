use Rattle.std.proofs.Common.{◌≡◌, ℕ, ◌<◌, true}
use Rattle.mm_nstable.specs.Nodes.{node_at, name_in, is_used}
use Rattle.mm_nstable.specs.Changes.{ns_of}
use Rattle.mm_nstable.specs.FreeChain.{IsFreeName}
use Rattle.mm_nstable.proofs.free_chain.free_node.Given as goal

abbrev pub invariant-loop-node : goal.invariant-loop-node
invariant-loop-node l = (j : ℕ) → j < l.node → is_used (ns_of l.draft) j ≡ true → IsFreeName (name_in (node_at (ns_of l.draft) j)) → ⊥
