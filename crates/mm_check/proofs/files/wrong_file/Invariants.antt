use Rattle.std.proofs.Common.{◌≡◌, ◌-◌, ◌≤◌}
use Rattle.mm_walk.specs.Questions.{first_failing}
use Rattle.mm_check.specs.FileQuestions.{data_questions}
use Rattle.mm_check.proofs.files.wrong_file.Given as goal

abbrev pub invariant-loop-file : goal.invariant-loop-file
invariant-loop-file l = (first_failing (data_questions l.views.private 0 8) ≡ first_failing (data_questions l.views.private l.file (8 - l.file))) × (l.file ≤ 8)
