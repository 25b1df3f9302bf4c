use Rattle.std.proofs.Common.{ℕ, ◌<◌, ◌≤◌, length, get_or, refl, ap, arith}
use Rattle.mm_crash.specs.Asks.{sync_asks}
use Rattle.mm_durable.specs.Names.{all_files}
use Rattle.mm_durable.specs.Log.{IsSound, IsFloor}
use Rattle.mm_durable.specs.declared.log.Log.{Log}
use Rattle.mm_durable.proofs.Steps.{on_err_holds, leaving}
use Rattle.mm_durable.proofs.SyncRuns.{made_syncs, some_syncs}
use Rattle.mm_durable.proofs.Syncs.{syncing_safe, synced_to}
use Rattle.mm_durable.proofs.log.Log.sync_data.Goals as goal

low : (old : Log) → IsSound old → (floor : ℕ) → IsFloor floor old → (d : ℕ) → d < length old.names.items → floor ≤ get_or old.flushed.items d 0
low old sound floor is d lt = is.low d (omega (arith, lt, sound.each))

above : (old : Log) → IsSound old → (floor : ℕ) → IsFloor floor old → old.floor ≤ floor
above old sound floor is = is.greatest old.floor sound.floor_synced (λ i lt. sound.floor_flushed i (omega (arith, lt, sound.each)))

pub returns-in_err-sync_databases-clause-left : goal.returns-in_err-sync_databases-clause-left
returns-in_err-sync_databases-clause-left g c = on_err_holds c.from_residual.result _ (leaving c.args.self.now _ _ (sync_asks (all_files c.args.self.now.names.items)) (some_syncs _ _ _ _ (ap all_files c.deref.ensures.value) c.sync_databases.ensures.cut) (syncing_safe c.args.self.now c.requires.sound))

pub returns-clause-kept : goal.returns-clause-kept
returns-clause-kept g c =
    let old = c.args.self.now in
    let floor = c.least_flushed-self.result in
    let is = c.least_flushed-self.ensures in
    synced_to old _ c.requires.sound floor (low old c.requires.sound floor is) (above old c.requires.sound floor is) is.most (record { names = refl; last = refl }) refl refl refl refl refl refl refl _ _ (made_syncs _ _ _ _ (ap all_files c.deref.ensures.value) c.in_ok-sync_databases.ensures.made)

pub returns-clause-made : goal.returns-clause-made
returns-clause-made g c = made_syncs _ _ _ _ (ap all_files c.deref.ensures.value) c.in_ok-sync_databases.ensures.made
