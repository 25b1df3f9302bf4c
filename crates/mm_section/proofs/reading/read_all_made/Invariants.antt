use Rattle.std.proofs.Common.{◌≡◌, ◌-◌, length, map}
use Rattle.mm_section.specs.Spells.{make_of}
use Rattle.mm_section.specs.Reading.{Reads}
use Rattle.mm_section.proofs.reading.read_all_made.Given as goal

abbrev pub invariant-loop-made : goal.invariant-loop-made
invariant-loop-made l = Reads (map make_of l.all.items) l.at l.bytes

abbrev pub decreases-loop-made : goal.decreases-loop-made
decreases-loop-made l = length l.bytes - l.at
