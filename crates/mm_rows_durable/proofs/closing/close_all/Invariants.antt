use Rattle.std.proofs.Common.{◌≡◌, length}
use Rattle.mm_rows_durable.specs.Closings.{IsClosing}
use Rattle.mm_rows_durable.proofs.closing.close_all.Given as goal

abbrev pub invariant-loop-db : goal.invariant-loop-db
invariant-loop-db l = IsClosing l.bench l.db l.entry × (length l.bench.sides.items ≡ l.count)
