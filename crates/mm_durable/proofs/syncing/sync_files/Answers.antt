use Rattle.std.proofs.Common.{arith}
use Rattle.mm_jfiles.proofs.Asking.{some_all}
use Rattle.mm_durable.proofs.SyncRuns.{one_of, synced_next_at, synced_cut_at, synced_done, made_syncs, some_syncs, names_are}
use Rattle.mm_durable.proofs.syncing.sync_files.Goals as goal

pub returns-in_err-sync_file-clause-cut : goal.returns-in_err-sync_file-clause-cut
returns-in_err-sync_file-clause-cut g c = some_syncs _ _ _ _ (names_are c.args.name.now c.args.files.now)
    (synced_cut_at (one_of c.args.name.now) c.args.files.now c.loop-file.file-index _ c.loop-file-test.true _ _ _ c.loop-file.invariant.told c.sync_file.ensures.cut)

pub loop-file-preserved : goal.loop-file-preserved
loop-file-preserved g c = record {
  told = synced_next_at (one_of c.args.name.now) c.args.files.now c.loop-file.file-index _ c.loop-file-test.true _ _ _ c.loop-file.invariant.told c.in_ok-sync_file.ensures.made;
  faults = omega arith;
}

pub returns-clause-made : goal.returns-clause-made
returns-clause-made g c = made_syncs _ _ _ _ (names_are c.args.name.now c.args.files.now) (synced_done (one_of c.args.name.now) c.args.files.now c.loop-file.file-index _ _ c.loop-file-test.false c.loop-file.invariant.told)

pub returns-clause-cut : goal.returns-clause-cut
returns-clause-cut g c = some_all _ _ _ (returns-clause-made g c)
