use Rattle.std.proofs.Common.{◌+◌, ◌-◌, ◌/◌, ◌<◌, ◌≤◌, sym, arith}
use Rattle.mm_btree.proofs.Searched.{less_before, not_less_from, key_place}
use Rattle.mm_btree.proofs.search.first_not_less.Goals as goal

pub loop-low-preserved-in-Less : goal.loop-low-preserved-in-Less
loop-low-preserved-in-Less c =
    let ps = c.args.bucket.now.pairs in
    let middle = c.loop-low.low + (c.loop-low.high - c.loop-low.low) / 2 in
    let lower : middle < c.loop-low.high = omega (arith, c.loop-low-test.true) in
    let i = c.loop-low.invariant in
    record {
      order = omega (arith, lower);
      inside = i.inside;
      below = λ j lt. less_before c.args.spec.now c.args.key.now ps c.requires j middle (omega (arith, lt)) (omega (arith, lower, i.inside)) (sym c.in-Less.ensures);
      above = i.above;
    }

pub loop-low-preserved-in-Equal : goal.loop-low-preserved-in-Equal
loop-low-preserved-in-Equal c =
    let ps = c.args.bucket.now.pairs in
    let middle = c.loop-low.low + (c.loop-low.high - c.loop-low.low) / 2 in
    let lower : middle < c.loop-low.high = omega (arith, c.loop-low-test.true) in
    let i = c.loop-low.invariant in
    record {
      order = omega arith;
      inside = omega (arith, lower, i.inside);
      below = i.below;
      above = λ j le lt. not_less_from c.args.spec.now c.args.key.now ps c.requires middle j le lt (λ e. let two = sym c.in-Equal.ensures in cc);
    }

pub loop-low-preserved : goal.loop-low-preserved
loop-low-preserved c =
    let ps = c.args.bucket.now.pairs in
    let middle = c.loop-low.low + (c.loop-low.high - c.loop-low.low) / 2 in
    let lower : middle < c.loop-low.high = omega (arith, c.loop-low-test.true) in
    let i = c.loop-low.invariant in
    record {
      order = omega arith;
      inside = omega (arith, lower, i.inside);
      below = i.below;
      above = λ j le lt. not_less_from c.args.spec.now c.args.key.now ps c.requires middle j le lt (λ e. let two = sym c.in-Greater.ensures in cc);
    }

pub returns-clause-is : goal.returns-clause-is
returns-clause-is c =
    let i = c.loop-low.invariant in
    let ends : c.loop-low.high ≤ c.loop-low.low = omega (arith, c.loop-low-test.false) in
    key_place c.args.spec.now c.args.key.now c.args.bucket.now.pairs c.loop-low.low (omega (arith, i.order, i.inside)) i.below (λ j le lt. i.above j (omega (arith, ends, le)) lt)

pub returns-clause-inside : goal.returns-clause-inside
returns-clause-inside c = omega (arith, c.loop-low.invariant.order, c.loop-low.invariant.inside)
