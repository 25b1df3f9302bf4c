use Rattle.std.proofs.Common.{◌≡◌, ◌-◌, length, map}
use Rattle.mm_section.specs.Spells.{put_of}
use Rattle.mm_section.specs.Reading.{Reads}
use Rattle.mm_section.proofs.reading.read_all_pieces.Given as goal

abbrev pub invariant-loop-all : goal.invariant-loop-all
invariant-loop-all l = Reads (map put_of l.all.items) l.at l.bytes

abbrev pub decreases-loop-all : goal.decreases-loop-all
decreases-loop-all l = length l.bytes - l.at
