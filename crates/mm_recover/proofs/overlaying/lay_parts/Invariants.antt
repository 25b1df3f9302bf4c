use Rattle.std.proofs.Common.{take}
use Rattle.mm_recover.specs.Laying.{part_entries}
use Rattle.mm_recover.specs.Overlaid.{own_name, LaysOver}
use Rattle.mm_recover.proofs.LayAsks.{all_entries}
use Rattle.mm_recover.proofs.overlaying.lay_parts.Given as goal

abbrev pub invariant-loop-part : goal.invariant-loop-part
invariant-loop-part l = LaysOver (all_entries part_entries (take l.part-index l.parts)) (own_name l.file) l.fn.content l.content
