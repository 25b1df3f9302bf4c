use Rattle.std.proofs.Common.{take, map, string_bytes}
use Rattle.mm_memdisk.specs.Left.{start_of, IsSame, LeavesThese}
use Rattle.mm_memdisk.proofs.crash.leave_all.Given as goal

abbrev pub invariant-loop-name : goal.invariant-loop-name
invariant-loop-name l = record {
  same : IsSame l.left.start l.left.files;
  left : LeavesThese (start_of l.disk) l.disk.calls.now (map string_bytes (take l.name-index l.names)) l.left.files;
}
