use Rattle.std.proofs.Common.{refl}
use Rattle.mm_durable.proofs.Steps.{on_err_holds}
use Rattle.mm_durable.proofs.Serving.{same_items, taken_same, serves, leaves_off, orderly, ended_stays}
use Rattle.mm_durable.proofs.durable.Durable.trim.Goals as goal

pub returns-in_err-trim-clause-left : goal.returns-in_err-trim-clause-left
returns-in_err-trim-clause-left g c = on_err_holds c.from_residual.result _ (leaves_off c.args.self.now _ _ c.requires.orderly.sound c.trim.ensures.run (taken_same c.args.self.now.intake) c.in_err-trim.ensures.unmoved _ _ c.in_err-trim.ensures.left)

pub returns-clause-same : goal.returns-clause-same
returns-clause-same g c = same_items c.args.self.now _ c.trim.ensures.run refl

pub returns-clause-orderly : goal.returns-clause-orderly
returns-clause-orderly g c = orderly c.args.self.now _ (same_items c.args.self.now _ c.trim.ensures.run refl) c.requires.orderly c.trim.ensures.sound (λ e. c.in_ok-trim.ensures.goes)

pub returns-clause-kept : goal.returns-clause-kept
returns-clause-kept g c = serves c.args.self.now.log _ c.args.self.now.intake _ c.trim.ensures.run (taken_same c.args.self.now.intake) _ _ c.in_ok-trim.ensures.kept

pub returns-in_err-trim-clause-same : goal.returns-in_err-trim-clause-same
returns-in_err-trim-clause-same g c = same_items c.args.self.now _ c.trim.ensures.run refl

pub returns-in_err-trim-clause-orderly : goal.returns-in_err-trim-clause-orderly
returns-in_err-trim-clause-orderly g c = orderly c.args.self.now _ (same_items c.args.self.now _ c.trim.ensures.run refl) c.requires.orderly c.trim.ensures.sound ended_stays
