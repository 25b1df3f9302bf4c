use Rattle.std.proofs.Common.{◌≡◌, ◌-◌, ◌^◌, take}
use Rattle.std.specs.Prelude.{sum_by, min}
use Rattle.mm_check.specs.BlockQuestions.{block_len}
use Rattle.mm_check.proofs.counts.bytes_of.Given as goal

abbrev pub invariant-loop-i : goal.invariant-loop-i
invariant-loop-i l = l.sum ≡ min (sum_by (λ p. block_len l.views.private p - 16) (take l.i l.records)) (2 ^ 64 - 1)
