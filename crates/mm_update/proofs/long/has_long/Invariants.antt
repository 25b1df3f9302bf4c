use Rattle.std.proofs.Common.{drop}
use Rattle.mm_update.specs.Meeting.{HasLong}
use Rattle.mm_update.proofs.long.has_long.Given as goal

abbrev pub invariant-loop-step : goal.invariant-loop-step
invariant-loop-step l = HasLong (drop l.step-index l.steps) → HasLong l.steps
