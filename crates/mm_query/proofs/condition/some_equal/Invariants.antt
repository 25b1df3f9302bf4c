use Rattle.std.proofs.Common.{◌≡◌}
use Rattle.std.specs.Prelude.{◌↔◌}
use Rattle.std.specs.declared.cmp.Ordering.TheVariants.{Equal}
use Rattle.mm_bson.specs.Order.{compare}
use Rattle.mm_bson.specs.Walk.{values_size}
use Rattle.mm_bson.specs.View.{tree_in}
use Rattle.mm_query.specs.Match.{SomeOf}
use Rattle.mm_query.proofs.condition.some_equal.Given as goal

abbrev pub invariant-loop-first : goal.invariant-loop-first
invariant-loop-first l = SomeOf (λ v. compare v (tree_in l.operand) ≡ Equal) l.rest ↔ SomeOf (λ v. compare v (tree_in l.operand) ≡ Equal) l.fn.values

abbrev pub decreases-loop-first : goal.decreases-loop-first
decreases-loop-first l = values_size l.rest
