use Rattle.mm_rows_trees.specs.Ready.{HasSome}
use Rattle.mm_rows_trees.proofs.filling.fill.Given as goal

-- the index lists some pairs
abbrev pub invariant-loop-at : goal.invariant-loop-at
invariant-loop-at l = HasSome l.draft.image l.tree.store.node l.tree.owner l.tree.position l.tree.spec
