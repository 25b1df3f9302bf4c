use Rattle.std.proofs.Common.{◌≡◌, take}
use Rattle.mm_durable.specs.Flushed.{flushed_bytes}
use Rattle.mm_durable.proofs.counting.flushed_bytes.Given as goal

abbrev pub invariant-loop-section : goal.invariant-loop-section
invariant-loop-section l = l.count ≡ flushed_bytes l.name (take l.section-index l.sections)
