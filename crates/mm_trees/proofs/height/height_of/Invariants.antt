use Rattle.std.proofs.Common.{ℕ}
use Rattle.mm_btree.specs.Trees.{Sub}
use Rattle.mm_trees.specs.Indexes.{IsRooted}
use Rattle.mm_trees.proofs.Heights.{IsDown}
use Rattle.mm_trees.proofs.height.height_of.Given as goal

abbrev pub invariant-loop-level : goal.invariant-loop-level
invariant-loop-level g l = (h : ℕ) (s : Sub) → IsRooted (g.S.NodeStore.bucket_at l.store) l.fn.root h s → IsDown (g.S.NodeStore.bucket_at l.store) l.at h l.level
