use Rattle.std.proofs.Common.{◌≤◌, take}
use Rattle.mm_outside.specs.Ask.{Makes}
use Rattle.mm_crash.specs.Asks.{lay_asks}
use Rattle.mm_recover.proofs.LayAsks.{all_entries}
use Rattle.mm_durable.proofs.Owning.{own_in_section}
use Rattle.mm_durable.proofs.flushing.lay_sections.Given as goal

abbrev pub invariant-loop-section : goal.invariant-loop-section
invariant-loop-section g l = record {
  told : Makes (lay_asks (all_entries (own_in_section l.name) (take l.section-index l.sections))) (g.D.Disk.told l.fn.disk) (g.D.Disk.told l.disk);
  faults : g.D.Disk.faults l.fn.disk ≤ g.D.Disk.faults l.disk;
}
