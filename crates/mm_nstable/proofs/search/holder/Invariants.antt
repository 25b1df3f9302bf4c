use Rattle.std.proofs.Common.{◌≡◌, ℕ, ◌<◌}
use Rattle.mm_base.specs.Bytes.{padded}
use Rattle.mm_nstable.specs.Hash.{hash_of}
use Rattle.mm_nstable.specs.Nodes.{node_at, head_in}
use Rattle.mm_nstable.specs.Table.{probe}
use Rattle.mm_nstable.specs.Changes.{ns_of}
use Rattle.mm_nstable.proofs.search.holder.Given as goal

abbrev pub invariant-loop-i : goal.invariant-loop-i
invariant-loop-i l = (j : ℕ) → j < l.i → (head_in (node_at (ns_of l.draft) (probe l.count l.name j))).hash ≡ hash_of l.name → (head_in (node_at (ns_of l.draft) (probe l.count l.name j))).name ≡ padded 128 l.name → ⊥
