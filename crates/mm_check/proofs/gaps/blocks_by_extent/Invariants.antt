use Rattle.std.proofs.Common.{take}
use Rattle.mm_check.specs.BlockMap.{HasBlocks}
use Rattle.mm_check.proofs.gaps.blocks_by_extent.Given as goal

abbrev pub invariant-loop-i : goal.invariant-loop-i
invariant-loop-i l = HasBlocks l.views.private (take l.i l.placed) l.map
