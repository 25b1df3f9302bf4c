use Rattle.mm_memdisk.proofs.Torn.{drawn_more}
use Rattle.mm_memdisk.proofs.crash.torn.Goals as goal

pub loop-at-preserved : goal.loop-at-preserved
loop-at-preserved c = drawn_more c.loop-at.bytes.items c.push.new.self.items c.drawn_byte.result c.loop-at.at c.args.now.now c.args.pending.now.least c.args.pending.now.ranges.items c.loop-at.invariant.sized c.in_ok-push.ensures.items c.loop-at.invariant.same c.drawn_byte.ensures
