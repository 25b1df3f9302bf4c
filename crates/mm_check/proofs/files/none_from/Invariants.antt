use Rattle.std.proofs.Common.{◌≡◌, ◌-◌, ◌≤◌}
use Rattle.mm_check.specs.FileQuestions.{none_from}
use Rattle.mm_check.proofs.files.none_from.Given as goal

abbrev pub invariant-loop-k : goal.invariant-loop-k
invariant-loop-k l = (none_from l.views.private l.file (8 - l.file) ≡ none_from l.views.private l.k (8 - l.k)) × (l.k ≤ 8)
