use Rattle.std.proofs.Common.{◌≡◌, length}
use Rattle.mm_ranges.specs.Limits.{is_rising}
use Rattle.mm_section.proofs.order.is_rising.Given as goal

abbrev pub invariant-loop-first : goal.invariant-loop-first
invariant-loop-first l = is_rising l.rest ≡ is_rising l.fn.made

abbrev pub decreases-loop-first : goal.decreases-loop-first
decreases-loop-first l = length l.rest
