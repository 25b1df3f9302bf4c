use Rattle.std.proofs.Common.{take}
use Rattle.mm_recover.specs.Laying.{newer_entries}
use Rattle.mm_recover.specs.Overlaid.{own_name, LaysOver}
use Rattle.mm_recover.proofs.LayAsks.{all_entries}
use Rattle.mm_recover.proofs.overlaying.overlay.Given as goal

abbrev pub invariant-loop-section : goal.invariant-loop-section
invariant-loop-section l = LaysOver (all_entries (newer_entries l.lsn) (take l.section-index l.sections)) (own_name l.file) l.fn.content l.content
