use Rattle.std.proofs.Common.{refl, arith}
use Rattle.mm_durable.proofs.Serving.{run_same, idles, orderly, safe_as}
use Rattle.mm_durable.proofs.durable.Durable.agree.Goals as goal

pub returns-clause-same : goal.returns-clause-same
returns-clause-same g c = record { run = run_same c.args.self.now.log; same_taken = c.agree.ensures.same }

pub returns-clause-orderly : goal.returns-clause-orderly
returns-clause-orderly g c = orderly c.args.self.now _ (record { run = run_same c.args.self.now.log; same_taken = c.agree.ensures.same }) c.requires.orderly c.requires.orderly.sound c.requires.orderly.goes

pub returns-clause-kept : goal.returns-clause-kept
returns-clause-kept g c = idles c.args.self.now.log c.args.self.now.intake _ c.requires.orderly.sound c.agree.ensures.same _

pub returns-clause-safe : goal.returns-clause-safe
returns-clause-safe g c = λ t u story history k. safe_as t u story history c.args.self.now.log c.args.self.now.log c.args.self.now.intake c.agree.«new».self refl c.agree.ensures.same.lists_same refl (omega arith) k
