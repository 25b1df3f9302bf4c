use Rattle.std.proofs.Common.{◌≡◌, sum_by, take}
use Rattle.mm_durable.specs.Flushed.{own_bytes}
use Rattle.mm_durable.proofs.counting.parts_bytes.Given as goal

abbrev pub invariant-loop-part : goal.invariant-loop-part
invariant-loop-part l = l.count ≡ sum_by (own_bytes l.name) (take l.part-index l.parts)
