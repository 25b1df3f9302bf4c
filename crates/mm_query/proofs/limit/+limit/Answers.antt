use Rattle.std.proofs.Common.{ap, arith}
use Rattle.mm_bson.specs.Tree.{Elements, depth, Values, values_depth}
use Rattle.mm_query.specs.Bounds.{opposite, limit_at, limit_each}
use Rattle.mm_query.proofs.Firsts.{element_at, no_element_at, value_at, no_value_at}
use Rattle.mm_query.proofs.Outer.{gathered, gathered_all}
use Rattle.mm_query.proofs.limit.+limit.Goals as goal

pub limit_at-fields-preserved : goal.limit_at-fields-preserved
limit_at-fields-preserved t c =
    let side = c.args.side in
    let path = c.args.path.now in
    let split = element_at c.field-item.result c.args.fields.now c.fields.field-index c.fields-test.true c.field-item.is in
    record {
      same = gathered (opposite side) _ _ _ _ _ _ (rw c.field_limit.ensures at c.tighter-best.ensures) (ap (λ (es : Elements). limit_at side path es) split) c.fields.invariant.same;
      shallow = omega (arith, ap depth split, c.fields.invariant.shallow);
    }

pub limit_at-returns : goal.limit_at-returns
limit_at-returns t c = gathered_all (opposite c.args.side) _ _ _ (ap (λ (es : Elements). limit_at c.args.side c.args.path.now es) (no_element_at c.args.fields.now c.fields.field-index c.fields-test.false)) c.fields.invariant.same

pub limit_each-each-preserved : goal.limit_each-each-preserved
limit_each-each-preserved t c =
    let side = c.args.side in
    let path = c.args.path.now in
    let split = value_at c.value-item.result c.args.values.now c.each.value-index c.each-test.true c.value-item.is in
    record {
      same = gathered (opposite side) _ _ _ _ _ _ (rw c.limit_inside.ensures at c.tighter-best.ensures) (ap (λ (vs : Values). limit_each side path vs) split) c.each.invariant.same;
      shallow = omega (arith, ap values_depth split, c.each.invariant.shallow);
    }

pub limit_each-returns : goal.limit_each-returns
limit_each-returns t c = gathered_all (opposite c.args.side) _ _ _ (ap (λ (vs : Values). limit_each c.args.side c.args.path.now vs) (no_value_at c.args.values.now c.each.value-index c.each-test.false)) c.each.invariant.same
