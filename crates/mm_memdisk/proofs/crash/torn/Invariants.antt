use Rattle.mm_memdisk.proofs.Torn.{DrawnTo}
use Rattle.mm_memdisk.proofs.crash.torn.Given as goal

abbrev pub invariant-loop-at : goal.invariant-loop-at
invariant-loop-at l = DrawnTo l.bytes.items l.at l.now l.pending.least l.pending.ranges.items
