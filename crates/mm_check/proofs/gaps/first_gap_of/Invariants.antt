use Rattle.std.proofs.Common.{◌≡◌, drop}
use Rattle.mm_check.specs.BlockQuestions.{first_gap_of}
use Rattle.mm_check.proofs.gaps.first_gap_of.Given as goal

abbrev pub invariant-loop-i : goal.invariant-loop-i
invariant-loop-i l = first_gap_of l.views.private l.placed l.extents ≡ first_gap_of l.views.private l.placed (drop l.i l.extents)
