use Rattle.std.proofs.Common.{◌≡◌, length}
use Rattle.mm_section.specs.Spells.{are_rising}
use Rattle.mm_section.proofs.order.names_rise.Given as goal

abbrev pub invariant-loop-first : goal.invariant-loop-first
invariant-loop-first l = are_rising l.rest ≡ are_rising l.fn.parts

abbrev pub decreases-loop-first : goal.decreases-loop-first
decreases-loop-first l = length l.rest
