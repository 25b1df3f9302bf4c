use Rattle.std.proofs.Common.{◌≡◌, drop}
use Rattle.mm_update.specs.Edited.{all_edited}
use Rattle.mm_update.proofs.apply.edit_all.Given as goal

abbrev pub invariant-loop-step : goal.invariant-loop-step
invariant-loop-step l = all_edited (drop l.step-index l.steps) l.draft ≡ all_edited l.steps l.fn.draft
