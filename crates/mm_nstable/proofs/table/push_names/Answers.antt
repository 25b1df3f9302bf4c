use Rattle.std.proofs.Common.{◌∙◌, ◌++◌, ◌<◌, ◌≤◌, ℕ, List, [], ◌∷◌, take, ap, sym, subst, append_assoc}
use Rattle.mm_nstable.specs.Nodes.{count_of, nodes_of}
use Rattle.mm_nstable.specs.Table.{entries_from}
use Rattle.mm_nstable.proofs.Entries.{listed}
use Rattle.mm_nstable.specs.Changes.{ns_of}
use Rattle.mm_nstable.proofs.Loops.{listed_more, listed_same, is_free_if, all_listed}
use Rattle.mm_nstable.proofs.table.push_names.Goals as goal
use Rattle.mm_nstable.proofs.table.push_names.Goals.{in-Some+in_ok-push, in_default}

pub loop-node-preserved : goal.loop-node-preserved
loop-node-preserved c =
    let there : c.loop-node.node < count_of (ns_of c.args.draft.now) = subst (λ (n : ℕ). c.loop-node.node < n) c.node_count-node-end.ensures c.loop-node-test.true in
    elim c.match-node_name.branch [
      | in-Some+in_ok-push w ↦
          (λ i. (w.out-is i).items) ∙ w.in_ok-push.ensures.items ∙ ap (λ (xs : List (List ℕ × ℕ)). xs ++ (w.in-Some.name, c.loop-node.node) ∷ []) c.loop-node.invariant
          ∙ append_assoc c.args.out.now.items (listed (entries_from 0 (take c.loop-node.node (nodes_of (ns_of c.args.draft.now))))) ((w.in-Some.name, c.loop-node.node) ∷ [])
          ∙ ap (λ (xs : List (List ℕ × ℕ)). c.args.out.now.items ++ xs) (sym (listed_more (ns_of c.args.draft.now) c.loop-node.node w.in-Some.name there w.in-Some.ensures.some.0 w.in-Some.ensures.some.1))
      | in_default w ↦
          (λ i. (w.out-is i).items) ∙ c.loop-node.invariant
          ∙ ap (λ (xs : List (List ℕ × ℕ)). c.args.out.now.items ++ xs) (sym (listed_same (ns_of c.args.draft.now) c.loop-node.node there (is_free_if (ns_of c.args.draft.now) c.loop-node.node c.requires there w.in_default.ensures.none)))
    ]

pub returns-clause-ok : goal.returns-clause-ok
returns-clause-ok c =
    c.loop-node.invariant ∙ ap (λ (xs : List (List ℕ × ℕ)). c.args.out.now.items ++ xs) (all_listed (ns_of c.args.draft.now) c.loop-node.node (subst (λ (n : ℕ). n ≤ c.loop-node.node) c.node_count-node-end.ensures c.loop-node-test.false))
