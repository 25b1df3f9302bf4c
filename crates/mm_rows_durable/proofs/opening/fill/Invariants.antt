use Rattle.std.proofs.Common.{◌≡◌, length}
use Rattle.mm_rows_durable.specs.Benches.{IsFed}
use Rattle.mm_rows_durable.proofs.opening.fill.Given as goal

abbrev pub invariant-loop-db : goal.invariant-loop-db
invariant-loop-db l = IsFed l.sides.items l.feeds.items × (length l.sides.items ≡ l.db)
