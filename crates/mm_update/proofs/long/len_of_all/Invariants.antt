use Rattle.std.proofs.Common.{drop}
use Rattle.mm_update.specs.Edited.{all_edited}
use Rattle.mm_update.specs.Meeting.{MeasuredBy}
use Rattle.mm_update.proofs.long.len_of_all.Given as goal

abbrev pub invariant-loop-step : goal.invariant-loop-step
invariant-loop-step l = MeasuredBy l.makers (drop l.step-index l.steps) l.doc (all_edited l.steps l.doc) l.len
