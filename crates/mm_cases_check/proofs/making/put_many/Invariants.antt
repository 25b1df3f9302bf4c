use Rattle.std.proofs.Common.{◌≤◌, length}
use Rattle.mm_cases_check.specs.Drafted.{AreGood}
use Rattle.mm_cases_check.proofs.making.put_many.Given as goal

abbrev pub invariant-loop-number : goal.invariant-loop-number
invariant-loop-number l = AreGood l.draft.image × 14 ≤ length l.payload
