use Rattle.std.proofs.Common.{take}
use Rattle.mm_recover.specs.Laying.{part_entries}
use Rattle.mm_recover.specs.Touched.{Adds}
use Rattle.mm_recover.proofs.LayAsks.{all_entries}
use Rattle.mm_recover.proofs.touched.add_parts.Given as goal

abbrev pub invariant-loop-part : goal.invariant-loop-part
invariant-loop-part l = Adds (all_entries part_entries (take l.part-index l.parts)) l.fn.names l.names
