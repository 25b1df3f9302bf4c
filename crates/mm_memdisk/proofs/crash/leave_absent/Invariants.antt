use Rattle.mm_memdisk.specs.Left.{start_of, IsSame, LeavesAll}
use Rattle.mm_memdisk.proofs.crash.leave_absent.Given as goal

abbrev pub invariant-loop-begun : goal.invariant-loop-begun
invariant-loop-begun l = record {
  same : IsSame l.left.start l.left.files;
  left : LeavesAll (start_of l.disk) l.disk.calls.now l.left.files;
}
