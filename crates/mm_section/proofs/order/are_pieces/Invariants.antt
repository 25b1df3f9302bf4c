use Rattle.std.proofs.Common.{◌≡◌, length}
use Rattle.std.specs.Prelude.{◌&&◌}
use Rattle.std.specs.List.{list_all}
use Rattle.mm_ranges.specs.Places.{is_normal}
use Rattle.mm_ranges.specs.Limits.{is_allowed}
use Rattle.mm_ranges.specs.Overlay.{ranges_of}
use Rattle.mm_section.proofs.order.are_pieces.Given as goal

abbrev pub invariant-loop-first : goal.invariant-loop-first
invariant-loop-first l = (is_normal (ranges_of l.rest) && list_all is_allowed (ranges_of l.rest)) ≡ (is_normal (ranges_of l.fn.pieces) && list_all is_allowed (ranges_of l.fn.pieces))

abbrev pub decreases-loop-first : goal.decreases-loop-first
decreases-loop-first l = length l.rest
