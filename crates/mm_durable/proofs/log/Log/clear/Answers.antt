use Rattle.std.proofs.Common.{length, ◌∙◌, ap}
use Rattle.mm_jfiles.specs.Files.{Files, remove_asks}
use Rattle.mm_durable.proofs.Steps.{on_err_holds, leaving}
use Rattle.mm_durable.proofs.Clears.{all_may_go, removing_safe, removed, drop_all}
use Rattle.mm_durable.proofs.log.Log.clear.Goals as goal

pub returns-in_err-clear-clause-left : goal.returns-in_err-clear-clause-left
returns-in_err-clear-clause-left g c =
    let old = c.args.self.now in
    let k = length old.journal.lasts in
    on_err_holds c.from_residual.result _ (leaving old _ _ (remove_asks old.journal.first k) c.clear.ensures.cut (removing_safe old c.requires.sound c.requires.goes k (all_may_go old c.requires.sound c.requires.marked)))

pub returns-clause-kept : goal.returns-clause-kept
returns-clause-kept g c =
    let old = c.args.self.now in
    let k = length old.journal.lasts in
    removed old c.requires.sound c.requires.goes k (all_may_go old c.requires.sound c.requires.marked) c.clear.new.self c.in_ok-clear.ensures.state _ _ c.in_ok-clear.ensures.made

pub returns-clause-cleared : goal.returns-clause-cleared
returns-clause-cleared g c = ap (λ (f : Files). f.lasts) c.in_ok-clear.ensures.state ∙ drop_all c.args.self.now.journal.lasts

pub returns-clause-made : goal.returns-clause-made
returns-clause-made g c = c.in_ok-clear.ensures.made
