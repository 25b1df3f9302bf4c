use Rattle.mm_recover.proofs.Counted.{one_newer, none_newer}
use Rattle.mm_recover.proofs.replaying.count_one.Goals as goal

pub returns-then-lsn-section-clause-counted : goal.returns-then-lsn-section-clause-counted
returns-then-lsn-section-clause-counted c = one_newer c.args.lsn c.args.section.now c.if-lsn-section.true

pub returns-else-lsn-section-clause-counted : goal.returns-else-lsn-section-clause-counted
returns-else-lsn-section-clause-counted c = none_newer c.args.lsn c.args.section.now c.if-lsn-section.false
