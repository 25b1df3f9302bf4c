use Rattle.mm_rows_durable.specs.Benches.{IsBench}
use Rattle.mm_rows_durable.proofs.turns.play.Given as goal

abbrev pub invariant-turns : goal.invariant-turns
invariant-turns l = IsBench l.bench
