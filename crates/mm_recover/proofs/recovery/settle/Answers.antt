use Rattle.std.proofs.Common.{◌≡◌, ℕ, List, ◌++◌, map, String, string_bytes, ◌∙◌, ap}
use Rattle.mm_recover.proofs.Afterwards.{settle_none, settle_made, settle_cut, names_told}
use Rattle.mm_recover.proofs.recovery.settle.Goals as goal

pub returns-in_err-names-clause-cut : goal.returns-in_err-names-clause-cut
returns-in_err-names-clause-cut g c = settle_none _ _ c.names.ensures.told

pub returns-in_err-sync_all-clause-cut : goal.returns-in_err-sync_all-clause-cut
returns-in_err-sync_all-clause-cut g c = settle_cut _ _ _ (map string_bytes c.deref.result.now) (names_told _ c.new-names.result.items c.names.new.out.items c.deref.result.now c.new-names.ensures.items c.deref.ensures.value c.in_ok-names.ensures.names) c.in_ok-names.ensures.told c.sync_all.ensures.cut

pub returns-clause-names : goal.returns-clause-names
returns-clause-names g c = names_told _ c.new-names.result.items c.names.new.out.items c.names.new.out.items c.new-names.ensures.items Rattle.std.proofs.Common.refl c.in_ok-names.ensures.names

pub returns-clause-made : goal.returns-clause-made
returns-clause-made g c = settle_made _ _ _ (map string_bytes c.deref.result.now) (names_told _ c.new-names.result.items c.names.new.out.items c.deref.result.now c.new-names.ensures.items c.deref.ensures.value c.in_ok-names.ensures.names) c.in_ok-names.ensures.told c.in_ok-sync_all.ensures.made

pub returns-clause-cut : goal.returns-clause-cut
returns-clause-cut g c = settle_cut _ _ _ (map string_bytes c.deref.result.now) (names_told _ c.new-names.result.items c.names.new.out.items c.deref.result.now c.new-names.ensures.items c.deref.ensures.value c.in_ok-names.ensures.names) c.in_ok-names.ensures.told c.sync_all.ensures.cut
