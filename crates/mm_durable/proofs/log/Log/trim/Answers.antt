use Rattle.std.proofs.Common.{◌+◌}
use Rattle.mm_jfiles.specs.Files.{remove_asks, how_many}
use Rattle.mm_durable.proofs.Steps.{on_err_holds, leaving}
use Rattle.mm_durable.proofs.Clears.{removing_safe, removed}
use Rattle.mm_durable.proofs.Trims.{marked_may_go, still_goes}
use Rattle.mm_durable.proofs.log.Log.trim.Goals as goal

pub returns-in_err-trim-clause-left : goal.returns-in_err-trim-clause-left
returns-in_err-trim-clause-left g c =
    let old = c.args.self.now in
    let k = how_many (old.last + old.mark) old.journal.lasts in
    on_err_holds c.from_residual.result _ (leaving old _ _ (remove_asks old.journal.first k) c.trim.ensures.cut (removing_safe old c.requires.sound c.requires.goes k (marked_may_go old c.requires.sound)))

pub returns-clause-goes : goal.returns-clause-goes
returns-clause-goes g c = still_goes c.args.self.now c.requires.goes c.trim.new.self c.in_ok-trim.ensures.state

pub returns-clause-kept : goal.returns-clause-kept
returns-clause-kept g c =
    let old = c.args.self.now in
    let k = how_many (old.last + old.mark) old.journal.lasts in
    removed old c.requires.sound c.requires.goes k (marked_may_go old c.requires.sound) c.trim.new.self c.in_ok-trim.ensures.state _ _ c.in_ok-trim.ensures.made

pub returns-clause-trimmed : goal.returns-clause-trimmed
returns-clause-trimmed g c = c.in_ok-trim.ensures.state

pub returns-clause-made : goal.returns-clause-made
returns-clause-made g c = c.in_ok-trim.ensures.made
