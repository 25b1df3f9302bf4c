use Rattle.std.proofs.Common.{arith}
use Rattle.mm_recover.proofs.Counted.{count_next, count_all}
use Rattle.mm_recover.proofs.replaying.count_newer.Goals as goal

pub loop-section-preserved : goal.loop-section-preserved
loop-section-preserved c =
    let inv = c.loop-section.invariant in
    record {
      counted = count_next c.args.lsn c.args.sections.now c.loop-section.section-index c.loop-section.count c.count_one-count.result c.section-item.result c.loop-section-test.true c.section-item.is c.count_one-count.ensures.counted inv.counted;
      few = omega (arith, inv.few, c.count_one-count.ensures.few);
    }

pub returns : goal.returns
returns c = count_all c.args.lsn c.args.sections.now c.loop-section.section-index c.loop-section.count c.loop-section-test.false c.loop-section.invariant.counted
