use Rattle.mm_durable.proofs.Steps.{on_err_holds}
use Rattle.mm_durable.proofs.Serving.{serves, leaves_off, orderly, ended_stays}
use Rattle.mm_durable.proofs.durable.Durable.flush.Goals as goal

pub returns-in_err-written-clause-left : goal.returns-in_err-written-clause-left
returns-in_err-written-clause-left g c = on_err_holds c.from_residual.result _ (leaves_off c.args.self.now _ _ c.requires.orderly.sound c.flush.ensures.run c.agree.ensures.same c.in_err-written.ensures.unmoved _ _ c.in_err-written.ensures.left)

pub returns-clause-same : goal.returns-clause-same
returns-clause-same g c = record { run = c.flush.ensures.run; same_taken = c.agree.ensures.same }

pub returns-clause-orderly : goal.returns-clause-orderly
returns-clause-orderly g c = orderly c.args.self.now _ (record { run = c.flush.ensures.run; same_taken = c.agree.ensures.same }) c.requires.orderly c.flush.ensures.sound (λ e. c.in_ok-written.ensures.goes)

pub returns-clause-kept : goal.returns-clause-kept
returns-clause-kept g c = serves c.args.self.now.log _ c.args.self.now.intake _ c.flush.ensures.run c.agree.ensures.same _ _ c.in_ok-written.ensures.kept

pub returns-in_err-written-clause-same : goal.returns-in_err-written-clause-same
returns-in_err-written-clause-same g c = record { run = c.flush.ensures.run; same_taken = c.agree.ensures.same }

pub returns-in_err-written-clause-orderly : goal.returns-in_err-written-clause-orderly
returns-in_err-written-clause-orderly g c = orderly c.args.self.now _ (record { run = c.flush.ensures.run; same_taken = c.agree.ensures.same }) c.requires.orderly c.flush.ensures.sound ended_stays
