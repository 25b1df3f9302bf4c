use Rattle.std.proofs.Common.{ℕ, List, ◌∙◌, ap, arith}
use Rattle.std.specs.Ordering.{eq_by_cmp}
use Rattle.mm_outside.specs.Image.{name_cmp}
use Rattle.mm_durable.proofs.Openings.{missed, hit, all_missed}
use Rattle.mm_durable.proofs.opening.place_of.Goals as goal

pub loop-one-preserved : goal.loop-one-preserved
loop-one-preserved c = record {
  place = omega (arith, c.loop-one.invariant.place);
  so = missed c.args.names.now c.args.name.now c.loop-one.one-index c.one-item.result c.loop-one-test.true c.one-item.is
      (c.if-is_same.ensures ∙ ap (λ (x : List ℕ). eq_by_cmp name_cmp x c.args.name.now) c.bytes.ensures.is) c.loop-one.invariant.so;
}

pub returns-then-is_same : goal.returns-then-is_same
returns-then-is_same c =
    c.loop-one.invariant.place
    ∙ hit c.args.names.now c.args.name.now c.loop-one.one-index c.one-item.result c.loop-one-test.true c.one-item.is
    (c.if-is_same.ensures ∙ ap (λ (x : List ℕ). eq_by_cmp name_cmp x c.args.name.now) c.bytes.ensures.is) c.loop-one.invariant.so

pub returns : goal.returns
returns c = c.loop-one.invariant.place ∙ all_missed c.args.names.now c.args.name.now c.loop-one.one-index c.loop-one-test.false c.loop-one.auto.one-index-end c.loop-one.invariant.so
