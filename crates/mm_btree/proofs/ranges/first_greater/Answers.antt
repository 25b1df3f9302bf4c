use Rattle.std.proofs.Common.{◌≡◌, ◌+◌, ◌-◌, ◌/◌, ◌<◌, ◌≤◌, true, false, not, Some, sym, ap, ◌∙◌, arith}
use Rattle.std.specs.Ordering.{is_gt}
use Rattle.mm_bucket.specs.Pairs.{pair_at}
use Rattle.mm_btree.specs.Nodes.{item_of}
use Rattle.mm_btree.specs.Listed.{stays}
use Rattle.mm_btree.proofs.Ranged.{greater_from, not_greater_to, ends_at}
use Rattle.mm_btree.proofs.ranges.first_greater.Goals as goal

pub loop-low-preserved-then-is_gt : goal.loop-low-preserved-then-is_gt
loop-low-preserved-then-is_gt c =
    let ps = c.args.bucket.now.pairs in
    let middle = c.loop-low.low + (c.loop-low.high - c.loop-low.low) / 2 in
    let lower : middle < c.loop-low.high = omega (arith, c.loop-low-test.true) in
    let i = c.loop-low.invariant in
    let here : stays c.args.spec.now (Some c.args.key.now) (item_of (pair_at ps middle)) ≡ false = ap not (sym (c.is_gt.ensures ∙ ap is_gt c.compare_key.ensures) ∙ c.if-is_gt.true) in
    record {
      begins = i.begins;
      order = omega arith;
      inside = omega (arith, lower, i.inside);
      below = i.below;
      above = λ j le lt. greater_from c.args.spec.now c.args.key.now ps c.requires.order middle j le lt here;
    }

pub loop-low-preserved : goal.loop-low-preserved
loop-low-preserved c =
    let ps = c.args.bucket.now.pairs in
    let middle = c.loop-low.low + (c.loop-low.high - c.loop-low.low) / 2 in
    let lower : middle < c.loop-low.high = omega (arith, c.loop-low-test.true) in
    let i = c.loop-low.invariant in
    let here : stays c.args.spec.now (Some c.args.key.now) (item_of (pair_at ps middle)) ≡ true = ap not (sym (c.is_gt.ensures ∙ ap is_gt c.compare_key.ensures) ∙ c.if-is_gt.false) in
    record {
      begins = omega (arith, i.begins);
      order = omega (arith, lower);
      inside = i.inside;
      below = λ j a lt. not_greater_to c.args.spec.now c.args.key.now ps c.requires.order j middle (omega (arith, lt)) (omega (arith, lower, i.inside)) here;
      above = i.above;
    }

pub returns : goal.returns
returns c =
    let i = c.loop-low.invariant in
    let ends : c.loop-low.high ≤ c.loop-low.low = omega (arith, c.loop-low-test.false) in
    ends_at c.args.spec.now c.args.key.now c.args.bucket.now.pairs c.args.from c.loop-low.low i.begins (omega (arith, i.order, i.inside)) i.below (λ j le lt. i.above j (omega (arith, ends, le)) lt)
