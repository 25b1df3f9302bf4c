use Rattle.std.proofs.Common.{refl}
use Rattle.mm_durable.proofs.Steps.{on_err_holds}
use Rattle.mm_durable.proofs.Serving.{same_items, taken_same, serves_marking, leaves_marking, orderly, ended_stays}
use Rattle.mm_durable.proofs.durable.Durable.mark_lsn.Goals as goal

pub returns-in_err-mark_lsn-clause-left : goal.returns-in_err-mark_lsn-clause-left
returns-in_err-mark_lsn-clause-left g c = on_err_holds c.from_residual.result _ (leaves_marking c.args.self.now _ _ c.requires.orderly.sound c.mark_lsn.ensures.run (taken_same c.args.self.now.intake) c.in_err-mark_lsn.ensures.unmoved _ _ c.in_err-mark_lsn.ensures.left)

pub returns-clause-same : goal.returns-clause-same
returns-clause-same g c = same_items c.args.self.now _ c.mark_lsn.ensures.run refl

pub returns-clause-orderly : goal.returns-clause-orderly
returns-clause-orderly g c = orderly c.args.self.now _ (same_items c.args.self.now _ c.mark_lsn.ensures.run refl) c.requires.orderly c.mark_lsn.ensures.sound (λ e. c.in_ok-mark_lsn.ensures.goes)

pub returns-clause-kept : goal.returns-clause-kept
returns-clause-kept g c = serves_marking c.args.self.now.log _ c.args.self.now.intake _ c.mark_lsn.ensures.run (taken_same c.args.self.now.intake) _ _ c.in_ok-mark_lsn.ensures.kept

pub returns-in_err-mark_lsn-clause-same : goal.returns-in_err-mark_lsn-clause-same
returns-in_err-mark_lsn-clause-same g c = same_items c.args.self.now _ c.mark_lsn.ensures.run refl

pub returns-in_err-mark_lsn-clause-orderly : goal.returns-in_err-mark_lsn-clause-orderly
returns-in_err-mark_lsn-clause-orderly g c = orderly c.args.self.now _ (same_items c.args.self.now _ c.mark_lsn.ensures.run refl) c.requires.orderly c.mark_lsn.ensures.sound ended_stays
