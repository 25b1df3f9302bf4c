use Rattle.mm_rows_held.specs.Bench.{IsBench}
use Rattle.mm_rows_held.proofs.limits.outcomes.Given as goal

abbrev pub invariant-loop-i : goal.invariant-loop-i
invariant-loop-i l = IsBench l.bench
