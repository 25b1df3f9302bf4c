use Rattle.std.proofs.Common.{◌≡◌, ◌++◌, ◌-◌, map}
use Rattle.mm_check.specs.Findings.{files_from, file_chains}
use Rattle.mm_check.specs.Phases.{extents_reading, file_chain}
use Rattle.mm_check.proofs.chains.file_chains.Given as goal

abbrev pub invariant-loop-file : goal.invariant-loop-file
invariant-loop-file l = map extents_reading l.chains.items ++ map (file_chain l.views.private) (files_from l.views.private l.file (8 - l.file)) ≡ file_chains l.views.private
