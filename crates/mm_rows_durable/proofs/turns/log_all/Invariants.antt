use Rattle.mm_rows_durable.specs.Benches.{IsBench}
use Rattle.mm_rows_durable.proofs.turns.log_all.Given as goal

abbrev pub invariant-logs : goal.invariant-logs
invariant-logs l = IsBench l.bench
