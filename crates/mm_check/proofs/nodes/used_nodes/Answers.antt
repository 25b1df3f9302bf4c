use Rattle.std.proofs.Common.{◌≡◌, ℕ, ◌+◌, ◌-◌, ◌<◌, Bool, true, false, List, ◌++◌, Vec, Global, refl, ap, sym, ◌∙◌, subst, arith}
use Rattle.std.specs.Prelude.{◌&&◌, ◌==◌, not, nat_lt}
use Rattle.mm_frames.specs.declared.node_head.NodeHead.{NodeHead}
use Rattle.mm_nstable.specs.Nodes.{count_of, node_at, is_free, is_used}
use Rattle.mm_nstable.proofs.Loops.{not_zero}
use Rattle.mm_nstable.proofs.Tables as tables
use Rattle.mm_records.specs.Stands.{ns_in}
use Rattle.mm_check.specs.Findings.{used_from, nodes_in}
use Rattle.mm_check.proofs.RecordLaws.{eq_of}
use Rattle.mm_check.proofs.Chained.{put_first, put_none, used_there, used_absent}
use Rattle.mm_check.proofs.nodes.used_nodes.Goals as goal
use Rattle.mm_check.proofs.nodes.used_nodes.Goals.{then-node_head-ne0+in_ok-push, else-node_head-ne0}

and_false : (b : Bool) → (b && false) ≡ false
and_false true = refl
and_false false = refl

pub loop-node-init : goal.loop-node-init
unfolding nodes_in
loop-node-init c =
    let ns = ns_in c.args.views.now.private in
    let n : count_of (ns_in c.args.views.now.private) - 0 ≡ count_of (ns_in c.args.views.now.private) = omega arith in
    ap (λ (xs : List ℕ). xs ++ used_from ns 0 (count_of ns - 0)) c.new-nodes.ensures.items ∙ ap (used_from ns 0) n

pub loop-node-preserved : goal.loop-node-preserved
loop-node-preserved c =
    let image = c.args.views.now.private in
    let ns = ns_in c.args.views.now.private in
    let node = c.loop-node.node in
    let there : c.loop-node.node < count_of (ns_in c.args.views.now.private) = subst (λ (n : ℕ). c.loop-node.node < n) c.node_count-node-end.ensures c.loop-node-test.true in
    let head = ap (λ (h : NodeHead). h.hash == 0) (sym c.node_head.ensures) in
    let rest = used_from (ns_in c.args.views.now.private) c.loop-node.node (count_of (ns_in c.args.views.now.private) - c.loop-node.node) in
    let next = used_from (ns_in c.args.views.now.private) (c.loop-node.node + 1) (count_of (ns_in c.args.views.now.private) - (c.loop-node.node + 1)) in
    elim c.if-node_head-ne0.branch [
      | then-node_head-ne0+in_ok-push w ↦
          let free : is_free (node_at ns node) ≡ false = head ∙ not_zero c.node_head.result.hash w.if-node_head-ne0.true in
          put_first c.loop-node.nodes.items c.if-node_head-ne0.nodes.items rest next (nodes_in image) node c.loop-node.invariant (used_there ns (count_of ns) node there (tables.used_from ns node there free))
          ((λ i. (w.nodes-is i).items) ∙ w.in_ok-push.ensures.items)
      | else-node_head-ne0 w ↦
          let free : is_free (node_at ns node) ≡ true = head ∙ eq_of c.node_head.result.hash 0 w.if-node_head-ne0.false in
          let used : is_used ns node ≡ false = ap (λ (b : Bool). nat_lt node (count_of ns) && not b) free ∙ and_false (nat_lt node (count_of ns)) in
          ap (λ (v : Vec ℕ Global). v.items ++ next) w.nodes-is ∙ put_none c.loop-node.nodes.items rest next (nodes_in image) c.loop-node.invariant (used_absent ns (count_of ns) node there used)
    ]
