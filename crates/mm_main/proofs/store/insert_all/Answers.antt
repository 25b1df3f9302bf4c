use Rattle.mm_main.proofs.StoreSteps.{inserting_first, inserting_next, inserting_more}
use Rattle.mm_main.proofs.store.insert_all.Goals as goal

pub loop-action-init : goal.loop-action-init
loop-action-init c = inserting_first c.args.collection.now c.args.actions.now _ c.in_ok-store.store c.requires.inserts c.new-replies.ensures.items (c.in_ok-store.ensures c.args.collection.now)

pub insert_of-requires-clause-insert : goal.insert_of-requires-clause-insert
insert_of-requires-clause-insert c = inserting_next c.args.collection.now c.args.actions.now _ c.action-item.result _ _ c.loop-action-test.true c.action-item.is c.loop-action.invariant

pub loop-action-preserved : goal.loop-action-preserved
loop-action-preserved c = inserting_more c.args.collection.now c.args.actions.now _ c.action-item.result _ _ _ _ _ c.loop-action-test.true c.action-item.is c.loop-action.invariant c.in_ok-next.ensures.built c.in_ok-next.ensures.answered c.in_ok-push.ensures.items
