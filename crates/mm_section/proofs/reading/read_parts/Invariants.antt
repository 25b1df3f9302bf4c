use Rattle.std.proofs.Common.{◌≡◌, ◌-◌, length}
use Rattle.mm_section.proofs.Found.{SoFar}
use Rattle.mm_section.proofs.reading.read_parts.Given as goal

abbrev pub invariant-loop-at : goal.invariant-loop-at
invariant-loop-at l = SoFar l.parts.items l.at l.bytes

abbrev pub decreases-loop-at : goal.decreases-loop-at
decreases-loop-at l = length l.bytes - l.at
