-- The status of the process.
use Rattle.std.specs.Prelude.{ℕ}
use Rattle.mm_main.specs.declared.status.Status.{Status}
use Rattle.mm_main.specs.declared.status.Status.TheVariants.{Done, Usage, ScriptRefused, DiskFault, SourceFault, SinkFault, NoMemory, FilesRefused}

abbrev pub code_of : Status → ℕ
code_of Done = 0
code_of Usage = 2
code_of ScriptRefused = 3
code_of DiskFault = 4
code_of SourceFault = 5
code_of SinkFault = 6
code_of NoMemory = 7
code_of FilesRefused = 8
