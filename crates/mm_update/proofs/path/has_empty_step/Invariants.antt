use Rattle.std.proofs.Common.{◌≡◌, length}
use denote.Text.{Utf8}
use denote.Shadow.{shadow}
use Rattle.mm_update.specs.Paths.{has_empty_step}
use Rattle.mm_update.proofs.path.has_empty_step.Given as goal

abbrev pub invariant-loop-here : goal.invariant-loop-here
invariant-loop-here l = shadow (Utf8 l.rest) × (has_empty_step l.rest ≡ has_empty_step l.path)

abbrev pub decreases-loop-here : goal.decreases-loop-here
decreases-loop-here l = length l.rest
