use Rattle.std.specs.Prelude.{◌↔◌}
use Rattle.mm_bson.specs.Walk.{values_size}
use Rattle.mm_bson.specs.View.{tree_in}
use Rattle.mm_query.specs.Match.{SomeOf, Equals}
use Rattle.mm_query.proofs.condition.equals_one.Given as goal

abbrev pub invariant-loop-first : goal.invariant-loop-first
invariant-loop-first l = SomeOf (λ u. Equals u (tree_in l.value)) l.rest ↔ SomeOf (λ u. Equals u (tree_in l.value)) l.fn.operands

abbrev pub decreases-loop-first : goal.decreases-loop-first
decreases-loop-first l = values_size l.rest
