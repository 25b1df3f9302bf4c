use Rattle.std.proofs.Common.{drop}
use Rattle.mm_main.specs.Inserts.{collection_in}
use Rattle.mm_main.proofs.PlayedSteps.{Passed}
use Rattle.mm_main.proofs.script.first_unplayed.Given as goal

abbrev pub invariant-loop-action : goal.invariant-loop-action
invariant-loop-action l = Passed (collection_in l.actions) l.actions (drop l.action-index l.actions)
