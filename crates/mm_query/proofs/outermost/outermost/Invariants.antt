use Rattle.std.proofs.Common.{◌≡◌, drop}
use Rattle.std.specs.Prelude.{option_map}
use Rattle.mm_bson.specs.View.{tree, values_of}
use Rattle.mm_query.specs.Bounds.{outer_of, outermost}
use Rattle.mm_query.proofs.outermost.outermost.Given as goal

abbrev pub invariant-loop-value : goal.invariant-loop-value
invariant-loop-value l = outer_of l.side (option_map (λ t. tree t.now) l.end) (outermost l.side (values_of (drop l.value-index l.values))) ≡ outermost l.side (values_of l.values)
