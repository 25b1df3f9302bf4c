use Rattle.mm_rows_trees.specs.Ready.{HasSome}
use Rattle.mm_rows_trees.proofs.refusals.any_goes.Given as goal

-- the index lists some pairs
abbrev pub invariant-loop-i : goal.invariant-loop-i
invariant-loop-i l = HasSome l.draft.image l.tree.store.node l.tree.owner l.tree.position l.tree.spec
