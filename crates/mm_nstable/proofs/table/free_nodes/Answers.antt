use Rattle.std.proofs.Common.{◌∙◌, ◌<◌, ◌≤◌, List, ℕ, ap, subst, arith}
use Rattle.std.specs.Prelude.{count_by}
use Rattle.mm_nstable.specs.Nodes.{count_of, is_free}
use Rattle.mm_nstable.specs.Changes.{ns_of}
use Rattle.mm_nstable.proofs.Loops.{all_nodes, free_more, free_same}
use Rattle.mm_nstable.proofs.table.free_nodes.Goals as goal
use Rattle.mm_nstable.proofs.table.free_nodes.Goals.{then-head-eq0, else-head-eq0}

pub loop-node-preserved : goal.loop-node-preserved
loop-node-preserved c =
    let ns = ns_of c.args.draft.now in
    let so_far = c.loop-node.invariant.0 in
    let small = c.loop-node.invariant.1 in
    let there : c.loop-node.node < count_of (ns_of c.args.draft.now) = subst (λ (n : ℕ). c.loop-node.node < n) c.node_count-node-end.ensures c.loop-node-test.true in
    elim c.if-head-eq0.branch [
      | then-head-eq0 w ↦
          let more = free_more (ns_of c.args.draft.now) c.loop-node.node c.head.result there c.head.ensures w.if-head-eq0.true in
          let is = w.free-is in
          (omega (arith, more, so_far, is), omega (arith, is, small))
      | else-head-eq0 w ↦
          let same = free_same (ns_of c.args.draft.now) c.loop-node.node c.head.result there c.head.ensures w.if-head-eq0.false in
          let is = w.free-is in
          (omega (arith, same, so_far, is), omega (arith, is, small))
    ]

pub returns : goal.returns
returns c =
    c.loop-node.invariant.0
    ∙ ap (λ (xs : List (List ℕ)). count_by (λ n. is_free n) xs) (all_nodes (ns_of c.args.draft.now) c.loop-node.node (subst (λ (n : ℕ). n ≤ c.loop-node.node) c.node_count-node-end.ensures c.loop-node-test.false))
