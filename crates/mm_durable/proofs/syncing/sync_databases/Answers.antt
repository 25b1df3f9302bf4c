use Rattle.std.proofs.Common.{arith, ap}
use Rattle.mm_jfiles.proofs.Asking.{some_all}
use Rattle.mm_durable.specs.Names.{files_of}
use Rattle.mm_durable.proofs.SyncRuns.{synced_next, synced_cut, synced_done, made_syncs, some_syncs, databases_are, name_at, same_db}
use Rattle.mm_durable.proofs.syncing.sync_databases.Goals as goal

pub returns-in_err-sync_database-clause-cut : goal.returns-in_err-sync_database-clause-cut
returns-in_err-sync_database-clause-cut g c = some_syncs _ _ _ _ (databases_are c.args.names.now)
    (synced_cut files_of c.args.names.now c.loop-name.name-index c.name-item.result c.loop-name-test.true c.name-item.is _ _ _ c.loop-name.invariant.told (some_syncs _ _ _ _ (ap files_of c.bytes.ensures.is) c.sync_database.ensures.cut))

pub loop-name-preserved : goal.loop-name-preserved
loop-name-preserved g c = record {
  told = synced_next files_of c.args.names.now c.loop-name.name-index c.name-item.result c.loop-name-test.true c.name-item.is _ _ _ c.loop-name.invariant.told (made_syncs _ _ _ _ (ap files_of c.bytes.ensures.is) c.in_ok-sync_database.ensures.made);
  faults = omega arith;
}

pub returns-clause-made : goal.returns-clause-made
returns-clause-made g c = made_syncs _ _ _ _ (databases_are c.args.names.now) (synced_done files_of c.args.names.now c.loop-name.name-index _ _ c.loop-name-test.false c.loop-name.invariant.told)

pub returns-clause-cut : goal.returns-clause-cut
returns-clause-cut g c = some_all _ _ _ (returns-clause-made g c)

pub sync_database-requires : goal.sync_database-requires
sync_database-requires g c = same_db c.bytes.result.now c.name-item.result c.bytes.ensures.is (name_at c.args.names.now c.loop-name.name-index c.name-item.result c.loop-name-test.true c.name-item.is c.requires)
