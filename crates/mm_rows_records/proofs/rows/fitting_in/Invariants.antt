use Rattle.mm_rows_records.specs.Drafted.{AreKept}
use Rattle.mm_rows_records.proofs.rows.fitting_in.Given as goal

abbrev pub invariant-loop-count : goal.invariant-loop-count
invariant-loop-count l = AreKept l.draft.image l.store.node
