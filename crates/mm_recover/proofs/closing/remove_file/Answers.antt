use Rattle.std.proofs.Common.{[], ◌∷◌, refl, ◌∙◌}
use Rattle.mm_crash.specs.Asks.{remove_asks}
use Rattle.mm_jfiles.proofs.Asking.{some_before, some_one, made_one}
use Rattle.mm_journal.proofs.Real.{the_names}
use Rattle.mm_recover.proofs.EachAsk.{removal_of, file_named}
use Rattle.mm_recover.proofs.closing.remove_file.Goals as goal

pub returns-in_err-name-clause-cut : goal.returns-in_err-name-clause-cut
returns-in_err-name-clause-cut g c = some_before (remove_asks the_names (c.args.number ∷ [])) (g.D.Disk.told c.args.disk.now)

pub returns-in_err-remove-clause-cut : goal.returns-in_err-remove-clause-cut
returns-in_err-remove-clause-cut g c = some_one (removal_of c.args.number) [] _ _ _ _ c.remove.result (c.deref.ensures ∙ c.in_ok-name.ensures ∙ file_named c.args.number c.requires) refl c.remove.ensures.told

pub returns-clause-made : goal.returns-clause-made
returns-clause-made g c = made_one (removal_of c.args.number) _ _ _ _ (c.deref.ensures ∙ c.in_ok-name.ensures ∙ file_named c.args.number c.requires) refl c.in_ok-remove.ensures.told

pub returns-clause-cut : goal.returns-clause-cut
returns-clause-cut g c = some_one (removal_of c.args.number) [] _ _ _ _ c.remove.result (c.deref.ensures ∙ c.in_ok-name.ensures ∙ file_named c.args.number c.requires) refl c.remove.ensures.told
