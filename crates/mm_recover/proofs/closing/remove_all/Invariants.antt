use Rattle.std.proofs.Common.{◌≤◌, ◌-◌, length, map, take}
use Rattle.mm_outside.specs.Ask.{Makes}
use Rattle.mm_recover.proofs.EachAsk.{removal_of}
use Rattle.mm_recover.proofs.closing.remove_all.Given as goal

abbrev pub invariant-loop-at : goal.invariant-loop-at
invariant-loop-at g l = record {
  told : Makes (map removal_of (take l.at l.numbers)) (g.D.Disk.told l.fn.disk) (g.D.Disk.told l.disk);
  faults : g.D.Disk.faults l.fn.disk ≤ g.D.Disk.faults l.disk;
}

abbrev pub decreases-loop-at : goal.decreases-loop-at
decreases-loop-at g l = length l.numbers - l.at
