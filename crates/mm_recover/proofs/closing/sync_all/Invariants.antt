use Rattle.std.proofs.Common.{◌≤◌, map, take}
use Rattle.mm_outside.specs.Ask.{Makes}
use Rattle.mm_recover.proofs.EachAsk.{sync_of}
use Rattle.mm_recover.proofs.closing.sync_all.Given as goal

abbrev pub invariant-loop-name : goal.invariant-loop-name
invariant-loop-name g l = record {
  told : Makes (map sync_of (take l.name-index l.names)) (g.D.Disk.told l.fn.disk) (g.D.Disk.told l.disk);
  faults : g.D.Disk.faults l.fn.disk ≤ g.D.Disk.faults l.disk;
}
