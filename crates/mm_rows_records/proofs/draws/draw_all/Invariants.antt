use Rattle.mm_rows_records.specs.Drafted.{AreKept}
use Rattle.mm_rows_records.proofs.draws.draw_all.Given as goal

abbrev pub invariant-loop-step : goal.invariant-loop-step
invariant-loop-step l = AreKept l.draft.image l.store.node
