use Rattle.std.proofs.Common.{◌≡◌, ℕ, ◌<◌, false}
use Rattle.mm_nstable.specs.Nodes.{node_at, is_free}
use Rattle.mm_nstable.specs.Table.{probe}
use Rattle.mm_nstable.specs.Changes.{ns_of}
use Rattle.mm_nstable.proofs.search.first_free.Given as goal

abbrev pub invariant-loop-i : goal.invariant-loop-i
invariant-loop-i l = (j : ℕ) → j < l.i → is_free (node_at (ns_of l.draft) (probe l.count l.name j)) ≡ false
