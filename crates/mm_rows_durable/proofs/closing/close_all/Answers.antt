use Rattle.std.proofs.Common.{ℕ, subst, arith}
use Rattle.mm_rows_durable.specs.Closings.{IsClosing}
use Rattle.mm_rows_durable.proofs.closing.close_all.Goals as goal

pub returns : goal.returns
returns c = subst (λ (n : ℕ). IsClosing c.loop-db.bench n c.args.entry) (omega (arith, c.loop-db-test.false, c.loop-db.auto.db-end, c.loop-db.invariant.1)) c.loop-db.invariant.0
