use Rattle.mm_rows_durable.specs.Benches.{IsBench}
use Rattle.mm_rows_durable.proofs.turns.flush_all.Given as goal

abbrev pub invariant-loop-db : goal.invariant-loop-db
invariant-loop-db l = IsBench l.bench
