use Rattle.std.proofs.Common.{◌<◌, drop}
use Rattle.std.specs.Prelude.{◌↔◌}
use Rattle.mm_bson.specs.Tree.{values_depth}
use Rattle.mm_update.specs.Drafted.{values_at}
use Rattle.mm_update.proofs.measure.values_are_shallow.Given as goal

abbrev pub invariant-loop-next : goal.invariant-loop-next
invariant-loop-next l = (values_depth (values_at (drop l.next-index l.values)) < l.limit) ↔ (values_depth (values_at l.values) < l.limit)
