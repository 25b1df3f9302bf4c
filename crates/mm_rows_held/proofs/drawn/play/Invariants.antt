use Rattle.mm_rows_held.specs.Bench.{IsBench}
use Rattle.mm_rows_held.proofs.drawn.play.Given as goal

abbrev pub invariant-loop-turn : goal.invariant-loop-turn
invariant-loop-turn l = IsBench l.bench
