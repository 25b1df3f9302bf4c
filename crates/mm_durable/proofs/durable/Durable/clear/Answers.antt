use Rattle.std.proofs.Common.{refl}
use Rattle.mm_durable.proofs.Steps.{on_err_holds}
use Rattle.mm_durable.proofs.Serving.{same_items, taken_same, serves, leaves_off, orderly, ended_stays}
use Rattle.mm_durable.proofs.durable.Durable.clear.Goals as goal

pub returns-in_err-clear-clause-left : goal.returns-in_err-clear-clause-left
returns-in_err-clear-clause-left g c = on_err_holds c.from_residual.result _ (leaves_off c.args.self.now _ _ c.requires.orderly.sound c.clear.ensures.run (taken_same c.args.self.now.intake) c.in_err-clear.ensures.unmoved _ _ c.in_err-clear.ensures.left)

pub returns-clause-same : goal.returns-clause-same
returns-clause-same g c = same_items c.args.self.now _ c.clear.ensures.run refl

pub returns-clause-orderly : goal.returns-clause-orderly
returns-clause-orderly g c = orderly c.args.self.now _ (same_items c.args.self.now _ c.clear.ensures.run refl) c.requires.orderly c.clear.ensures.sound (λ e. c.in_ok-clear.ensures.goes)

pub returns-clause-kept : goal.returns-clause-kept
returns-clause-kept g c = serves c.args.self.now.log _ c.args.self.now.intake _ c.clear.ensures.run (taken_same c.args.self.now.intake) _ _ c.in_ok-clear.ensures.kept

pub returns-in_err-clear-clause-same : goal.returns-in_err-clear-clause-same
returns-in_err-clear-clause-same g c = same_items c.args.self.now _ c.clear.ensures.run refl

pub returns-in_err-clear-clause-orderly : goal.returns-in_err-clear-clause-orderly
returns-in_err-clear-clause-orderly g c = orderly c.args.self.now _ (same_items c.args.self.now _ c.clear.ensures.run refl) c.requires.orderly c.clear.ensures.sound ended_stays
