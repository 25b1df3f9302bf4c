use Rattle.std.proofs.Common.{◌≡◌, drop}
use Rattle.std.specs.Prelude.{option_map}
use Rattle.mm_bson.specs.View.{tree, elements_of}
use Rattle.mm_query.specs.Bounds.{tighter, limit_among}
use Rattle.mm_query.proofs.limit.limit_among.Given as goal

abbrev pub invariant-loop-operator : goal.invariant-loop-operator
invariant-loop-operator l = tighter l.side (option_map (λ t. tree t.now) l.best) (limit_among l.side (elements_of (drop l.operator-index l.operators))) ≡ limit_among l.side (elements_of l.operators)
