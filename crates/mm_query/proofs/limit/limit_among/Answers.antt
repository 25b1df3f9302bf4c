use Rattle.std.proofs.Common.{ap}
use Rattle.mm_bson.specs.Tree.{Elements}
use Rattle.mm_query.specs.Bounds.{opposite, limit_among}
use Rattle.mm_query.proofs.Firsts.{element_at, no_element_at}
use Rattle.mm_query.proofs.Outer.{gathered, gathered_all}
use Rattle.mm_query.proofs.limit.limit_among.Goals as goal

pub loop-operator-preserved : goal.loop-operator-preserved
loop-operator-preserved c =
    let side = c.args.side in
    let split = ap (λ (es : Elements). limit_among side es) (element_at c.operator-item.result c.args.operators.now c.loop-operator.operator-index c.loop-operator-test.true c.operator-item.is) in
    gathered (opposite side) _ _ _ _ _ _ (rw c.limit_of.ensures at c.tighter-best.ensures) split c.loop-operator.invariant

pub returns : goal.returns
returns c = gathered_all (opposite c.args.side) _ _ _ (ap (λ (es : Elements). limit_among c.args.side es) (no_element_at c.args.operators.now c.loop-operator.operator-index c.loop-operator-test.false)) c.loop-operator.invariant
