use Rattle.std.proofs.Common.{refl}
use Rattle.mm_durable.proofs.Steps.{on_err_holds}
use Rattle.mm_durable.proofs.Serving.{same_items, taken_same, serves, leaves_off, orderly, ended_stays}
use Rattle.mm_durable.proofs.durable.Durable.log.Goals as goal

pub returns-in_err-logged-clause-left : goal.returns-in_err-logged-clause-left
returns-in_err-logged-clause-left g c = on_err_holds c.from_residual.result _ (leaves_off c.args.self.now _ _ c.requires.orderly.sound c.log.ensures.run (taken_same c.args.self.now.intake) c.in_err-logged.ensures.unmoved _ _ c.in_err-logged.ensures.left)

pub returns-clause-same : goal.returns-clause-same
returns-clause-same g c = same_items c.args.self.now _ c.log.ensures.run refl

pub returns-clause-orderly : goal.returns-clause-orderly
returns-clause-orderly g c = orderly c.args.self.now _ (same_items c.args.self.now _ c.log.ensures.run refl) c.requires.orderly c.log.ensures.sound (λ e. c.in_ok-logged.ensures.goes)

pub returns-clause-kept : goal.returns-clause-kept
returns-clause-kept g c = serves c.args.self.now.log _ c.args.self.now.intake _ c.log.ensures.run (taken_same c.args.self.now.intake) _ _ c.in_ok-logged.ensures.kept

pub returns-in_err-logged-clause-same : goal.returns-in_err-logged-clause-same
returns-in_err-logged-clause-same g c = same_items c.args.self.now _ c.log.ensures.run refl

pub returns-in_err-logged-clause-orderly : goal.returns-in_err-logged-clause-orderly
returns-in_err-logged-clause-orderly g c = orderly c.args.self.now _ (same_items c.args.self.now _ c.log.ensures.run refl) c.requires.orderly c.log.ensures.sound ended_stays
