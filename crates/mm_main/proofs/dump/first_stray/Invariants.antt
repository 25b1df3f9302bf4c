use Rattle.std.proofs.Common.{drop, map, string_bytes}
use Rattle.mm_main.proofs.DumpSteps.{LeavesStray}
use Rattle.mm_main.proofs.dump.first_stray.Given as goal

abbrev pub invariant-loop-name : goal.invariant-loop-name
invariant-loop-name l = LeavesStray (map string_bytes l.names) (map string_bytes (drop l.name-index l.names))
