use Rattle.std.proofs.Common.{◌≤◌, take}
use Rattle.mm_outside.specs.Ask.{Makes}
use Rattle.mm_crash.specs.Asks.{lay_asks}
use Rattle.mm_recover.proofs.LayAsks.{all_entries}
use Rattle.mm_durable.specs.Own.{own_of}
use Rattle.mm_durable.proofs.flushing.lay_section.Given as goal

abbrev pub invariant-loop-part : goal.invariant-loop-part
invariant-loop-part g l = record {
  told : Makes (lay_asks (all_entries (own_of l.name) (take l.part-index l.parts))) (g.D.Disk.told l.fn.disk) (g.D.Disk.told l.disk);
  faults : g.D.Disk.faults l.fn.disk ≤ g.D.Disk.faults l.disk;
}
