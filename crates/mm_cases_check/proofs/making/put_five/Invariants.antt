use Rattle.mm_cases_check.specs.Drafted.{AreGood}
use Rattle.mm_cases_check.proofs.making.put_five.Given as goal

abbrev pub invariant-loop-number : goal.invariant-loop-number
invariant-loop-number l = AreGood l.draft.image
