use Rattle.std.proofs.Common.{take}
use Rattle.mm_memdisk.specs.Left.{start_of, TracesFile}
use Rattle.mm_memdisk.proofs.crash.trace.Given as goal

abbrev pub invariant-loop-begun : goal.invariant-loop-begun
invariant-loop-begun l = TracesFile (start_of l.disk) (take l.begun-index l.disk.calls.now) l.name l.traced
