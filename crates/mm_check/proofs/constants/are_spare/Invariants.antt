use Rattle.std.proofs.Common.{◌≡◌, drop}
use Rattle.std.specs.List.{list_all}
use Rattle.mm_check.specs.CountQuestions.{is_spare}
use Rattle.mm_check.proofs.constants.are_spare.Given as goal

abbrev pub invariant-loop-i : goal.invariant-loop-i
invariant-loop-i l = list_all is_spare l.pairs ≡ list_all is_spare (drop l.i l.pairs)
