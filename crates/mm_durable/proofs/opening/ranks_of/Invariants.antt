use Rattle.std.proofs.Common.{◌≡◌, ℕ, List, map, take}
use Rattle.mm_durable.specs.Names.{index_of}
use Rattle.mm_durable.proofs.opening.ranks_of.Given as goal

abbrev pub invariant-loop-name : goal.invariant-loop-name
invariant-loop-name l = l.ranks.items ≡ map (λ (n : List ℕ). index_of l.sorted n) (take l.name-index l.names)
