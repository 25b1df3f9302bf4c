use Rattle.std.proofs.Common.{◌≡◌, Some}
use Rattle.mm_base.specs.declared.place.DiskLoc.{DiskLoc}
use Rattle.mm_cases_check.specs.Drafted.{IsThere}
use Rattle.mm_cases_check.proofs.calls.record_behind.Given as goal

-- the next place is a record's, where there is one
abbrev pub invariant-loop-step : goal.invariant-loop-step
invariant-loop-step l = (at : DiskLoc) → l.next ≡ Some at → IsThere l.draft.image l.store.node at
