use Rattle.std.proofs.Common.{◌≡◌, take}
use Rattle.mm_durable.specs.Flushed.{range_bytes}
use Rattle.mm_durable.proofs.counting.range_bytes.Given as goal

abbrev pub invariant-loop-piece : goal.invariant-loop-piece
invariant-loop-piece l = l.count ≡ range_bytes (take l.piece-index l.pieces)
