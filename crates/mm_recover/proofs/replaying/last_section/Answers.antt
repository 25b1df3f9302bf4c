use Rattle.std.proofs.Common.{arith}
use Rattle.mm_recover.proofs.ReadTo.{last_at, last_none}
use Rattle.mm_recover.proofs.replaying.last_section.Goals as goal

pub returns-then-count-eq0 : goal.returns-then-count-eq0
returns-then-count-eq0 c = last_none c.args.sections.now (omega (arith, c.if-count-eq0.true))

pub returns-else-count-eq0 : goal.returns-else-count-eq0
returns-else-count-eq0 c = last_at c.args.sections.now c.index-sections-count.result (omega (arith, c.if-count-eq0.false))
