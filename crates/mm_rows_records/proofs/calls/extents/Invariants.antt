use Rattle.std.proofs.Common.{◌≡◌, Some}
use Rattle.mm_base.specs.declared.place.DiskLoc.{DiskLoc}
use Rattle.mm_rows_records.specs.Drafted.{IsExtentThere}
use Rattle.mm_rows_records.proofs.calls.extents.Given as goal

-- the next place is an extent's, where there is one
abbrev pub invariant-loop-step : goal.invariant-loop-step
invariant-loop-step l = (at : DiskLoc) → l.next ≡ Some at → IsExtentThere l.draft.image l.fn.store.node at
