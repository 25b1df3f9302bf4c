use Rattle.std.proofs.Common.{◌+◌, ◌-◌, ◌/◌, ◌<◌, sym, arith}
use Rattle.mm_bucket.proofs.Ordering.{less_before, greater_behind}
use Rattle.mm_bucket.proofs.bucket.Bucket.find_in_place.Goals as goal

pub loop-low-preserved-in-Less : goal.loop-low-preserved-in-Less
loop-low-preserved-in-Less c =
    let ps = c.args.self.now.pairs in
    let middle = c.loop-low.low + (c.loop-low.high - c.loop-low.low) / 2 in
    let lower : middle < c.loop-low.high = omega (arith, c.loop-low-test.true) in
    let i = c.loop-low.invariant in
    record {
      order = omega (arith, lower);
      inside = i.inside;
      below = λ j lt. less_before c.args.spec.now ps c.args.key.now c.args.rec c.requires j middle (omega (arith, lt)) (omega (arith, lower, i.inside)) (sym c.in-Less.ensures);
      above = i.above;
    }

pub loop-low-preserved : goal.loop-low-preserved
loop-low-preserved c =
    let ps = c.args.self.now.pairs in
    let middle = c.loop-low.low + (c.loop-low.high - c.loop-low.low) / 2 in
    let lower : middle < c.loop-low.high = omega (arith, c.loop-low-test.true) in
    let i = c.loop-low.invariant in
    record {
      order = omega arith;
      inside = omega (arith, lower, i.inside);
      below = i.below;
      above = λ j le lt. greater_behind c.args.spec.now ps c.args.key.now c.args.rec c.requires middle j le lt (sym c.in-Greater.ensures);
    }
