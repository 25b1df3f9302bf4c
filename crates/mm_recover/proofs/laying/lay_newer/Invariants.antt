use Rattle.std.proofs.Common.{◌≤◌, take}
use Rattle.mm_outside.specs.Ask.{Makes}
use Rattle.mm_crash.specs.Asks.{lay_asks}
use Rattle.mm_recover.specs.Laying.{newer_entries}
use Rattle.mm_recover.proofs.LayAsks.{all_entries}
use Rattle.mm_recover.proofs.laying.lay_newer.Given as goal

abbrev pub invariant-loop-section : goal.invariant-loop-section
invariant-loop-section g l = record {
  told : Makes (lay_asks (all_entries (newer_entries l.lsn) (take l.section-index l.sections))) (g.D.Disk.told l.fn.disk) (g.D.Disk.told l.disk);
  faults : g.D.Disk.faults l.fn.disk ≤ g.D.Disk.faults l.disk;
}
