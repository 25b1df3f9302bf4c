use Rattle.std.proofs.Common.{drop}
use Rattle.mm_main.proofs.StoreSteps.{Inserting}
use Rattle.mm_main.proofs.store.insert_all.Given as goal

abbrev pub invariant-loop-action : goal.invariant-loop-action
invariant-loop-action l = Inserting l.collection l.actions (drop l.action-index l.actions) l.replies.items l.store
