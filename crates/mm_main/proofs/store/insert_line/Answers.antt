use Rattle.mm_main.proofs.MoreSteps.{stands_inside}
use Rattle.mm_main.proofs.store.insert_line.Goals as goal

pub overflow_sub-chain : goal.overflow_sub-chain
overflow_sub-chain c = (stands_inside _ _ _ _ _ c.requires.store.1.stands).1
