use Rattle.std.proofs.Common.{◌≡◌, true}
use Rattle.std.specs.Prelude.{◌↔◌}
use Rattle.mm_bson.specs.Order.{class, compare}
use Rattle.mm_bson.specs.Walk.{values_size}
use Rattle.mm_bson.specs.View.{tree_in}
use Rattle.mm_query.specs.Match.{SomeOf, is_so}
use Rattle.mm_query.proofs.condition.some_stands.Given as goal

abbrev pub invariant-loop-first : goal.invariant-loop-first
invariant-loop-first l = SomeOf (λ v. (class v ≡ class (tree_in l.operand)) × (is_so l.operator (compare v (tree_in l.operand)) ≡ true)) l.rest ↔ SomeOf (λ v. (class v ≡ class (tree_in l.operand)) × (is_so l.operator (compare v (tree_in l.operand)) ≡ true)) l.fn.values

abbrev pub decreases-loop-first : goal.decreases-loop-first
decreases-loop-first l = values_size l.rest
