use Rattle.std.proofs.Common.{◌-◌, length}
use Rattle.mm_recover.proofs.ReadTo.{ReadTo}
use Rattle.mm_recover.proofs.sections.read_sections.Given as goal

abbrev pub invariant-loop-sections : goal.invariant-loop-sections
invariant-loop-sections l = ReadTo l.lsn (l.id - 1) l.bytes l.fn.sections.items l.sections.items l.at

abbrev pub decreases-loop-sections : goal.decreases-loop-sections
decreases-loop-sections l = length l.bytes - l.at
