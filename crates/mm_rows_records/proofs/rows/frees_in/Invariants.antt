use Rattle.mm_rows_records.specs.Drafted.{AreKept}
use Rattle.mm_rows_records.proofs.rows.frees_in.Given as goal

abbrev pub invariant-loop-which : goal.invariant-loop-which
invariant-loop-which l = AreKept l.draft.image l.store.node
