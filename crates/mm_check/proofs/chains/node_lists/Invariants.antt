use Rattle.std.proofs.Common.{◌≡◌, map}
use Rattle.std.specs.List.{range_with_len}
use Rattle.mm_check.specs.Phases.{deleted_reading, owner_at, list_chain}
use Rattle.mm_check.proofs.chains.node_lists.Given as goal

abbrev pub invariant-loop-list : goal.invariant-loop-list
invariant-loop-list l = map deleted_reading l.chains.items ≡ map (list_chain l.views.private (owner_at l.node l.extents)) (range_with_len 0 l.list)
