use Rattle.std.proofs.Common.{◌≡◌, ◌+◌, ◌-◌, ◌≤◌, length}
use Rattle.mm_check.specs.Findings.{files_from}
use Rattle.mm_check.proofs.report.file_count.Given as goal

abbrev pub invariant-loop-file : goal.invariant-loop-file
invariant-loop-file l = record {
  left : l.files + length (files_from l.views.private l.file (8 - l.file)) ≡ length (files_from l.views.private 0 8);
  few : l.files ≤ l.file;
}
