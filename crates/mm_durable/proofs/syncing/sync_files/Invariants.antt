use Rattle.std.proofs.Common.{◌≤◌, take}
use Rattle.mm_outside.specs.Ask.{Makes}
use Rattle.mm_crash.specs.Asks.{sync_asks}
use Rattle.mm_durable.proofs.SyncRuns.{all_names, one_of}
use Rattle.mm_durable.proofs.syncing.sync_files.Given as goal

abbrev pub invariant-loop-file : goal.invariant-loop-file
invariant-loop-file g l = record {
  told : Makes (sync_asks (all_names (one_of l.name) (take l.file-index l.files))) (g.D.Disk.told l.fn.disk) (g.D.Disk.told l.disk);
  faults : g.D.Disk.faults l.fn.disk ≤ g.D.Disk.faults l.disk;
}
