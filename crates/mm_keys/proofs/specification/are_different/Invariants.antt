use Rattle.std.proofs.Common.{drop}
use Rattle.std.specs.Prelude.{◌↔◌}
use Rattle.mm_bson.specs.View.{elements_of}
use Rattle.mm_keys.specs.Specification.{AreDifferent}
use Rattle.mm_keys.proofs.specification.are_different.Given as goal

abbrev pub invariant-loop-i : goal.invariant-loop-i
invariant-loop-i l = AreDifferent (elements_of (drop l.i l.fields)) ↔ AreDifferent (elements_of l.fields)
