use Rattle.std.proofs.Common.{◌≡◌, drop}
use Rattle.mm_bson.specs.Tree.{append_values}
use Rattle.mm_bson.specs.View.{values_of}
use Rattle.mm_update.specs.Drafted.{values_at}
use Rattle.mm_update.proofs.value.values_in.Given as goal

abbrev pub invariant-loop-value : goal.invariant-loop-value
invariant-loop-value l = append_values (values_at l.found.items) (values_of (drop l.value-index l.values)) ≡ l.list
