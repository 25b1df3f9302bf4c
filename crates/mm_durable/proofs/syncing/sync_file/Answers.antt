use Rattle.std.proofs.Common.{[], ◌∷◌, refl, ◌∙◌}
use Rattle.mm_outside.specs.Told.{Syncs}
use Rattle.mm_jfiles.proofs.Asking.{some_before, some_one, some_all, made_one}
use Rattle.mm_crash.specs.Asks.{sync_asks}
use Rattle.mm_journal.specs.Real.{disk_name}
use Rattle.mm_durable.proofs.syncing.sync_file.Goals as goal

pub returns-in_err-text-clause-cut : goal.returns-in_err-text-clause-cut
returns-in_err-text-clause-cut g c = some_before (sync_asks (disk_name c.args.name.now c.args.file ∷ [])) _

pub returns-in_err-sync-clause-cut : goal.returns-in_err-sync-clause-cut
returns-in_err-sync-clause-cut g c = some_one (record { name = disk_name c.args.name.now c.args.file; change = Syncs }) [] _ _ _ _ c.sync.result (c.deref.ensures ∙ c.in_ok-text.ensures) refl c.sync.ensures.told

pub returns-clause-made : goal.returns-clause-made
returns-clause-made g c = made_one (record { name = disk_name c.args.name.now c.args.file; change = Syncs }) _ _ _ _ (c.deref.ensures ∙ c.in_ok-text.ensures) refl c.in_ok-sync.ensures.told

pub returns-clause-cut : goal.returns-clause-cut
returns-clause-cut g c = some_all (sync_asks (disk_name c.args.name.now c.args.file ∷ [])) _ _ (returns-clause-made g c)
