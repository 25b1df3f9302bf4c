use Rattle.std.proofs.Common.{ap}
use Rattle.mm_bson.specs.Tree.{Values}
use Rattle.mm_query.specs.Bounds.{outermost}
use Rattle.mm_query.proofs.Firsts.{value_at, no_value_at}
use Rattle.mm_query.proofs.Outer.{gathered, gathered_all}
use Rattle.mm_query.proofs.outermost.outermost.Goals as goal

pub loop-value-preserved : goal.loop-value-preserved
loop-value-preserved c =
    let side = c.args.side in
    let split = ap (λ (vs : Values). outermost side vs) (value_at c.value-item.result c.args.values.now c.loop-value.value-index c.loop-value-test.true c.value-item.is) in
    gathered side _ _ _ _ _ _ (rw c.unless_array.ensures at c.outer_of-end.ensures) split c.loop-value.invariant

pub returns : goal.returns
returns c = gathered_all c.args.side _ _ _ (ap (λ (vs : Values). outermost c.args.side vs) (no_value_at c.args.values.now c.loop-value.value-index c.loop-value-test.false)) c.loop-value.invariant
