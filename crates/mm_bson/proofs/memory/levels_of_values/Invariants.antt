use Rattle.std.proofs.Common.{◌≡◌, drop, max}
use Rattle.mm_bson.specs.Tree.{values_depth}
use Rattle.mm_bson.specs.View.{values_of}
use Rattle.mm_bson.proofs.memory.levels_of_values.Given as goal

abbrev pub invariant-loop-value : goal.invariant-loop-value
invariant-loop-value l = max l.most (values_depth (values_of (drop l.value-index l.values))) ≡ values_depth (values_of l.values)
