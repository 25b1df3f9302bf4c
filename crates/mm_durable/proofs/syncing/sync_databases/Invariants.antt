use Rattle.std.proofs.Common.{◌≤◌, take}
use Rattle.mm_outside.specs.Ask.{Makes}
use Rattle.mm_crash.specs.Asks.{sync_asks}
use Rattle.mm_durable.specs.Names.{files_of}
use Rattle.mm_durable.proofs.SyncRuns.{all_names}
use Rattle.mm_durable.proofs.syncing.sync_databases.Given as goal

abbrev pub invariant-loop-name : goal.invariant-loop-name
invariant-loop-name g l = record {
  told : Makes (sync_asks (all_names files_of (take l.name-index l.names))) (g.D.Disk.told l.fn.disk) (g.D.Disk.told l.disk);
  faults : g.D.Disk.faults l.fn.disk ≤ g.D.Disk.faults l.disk;
}
