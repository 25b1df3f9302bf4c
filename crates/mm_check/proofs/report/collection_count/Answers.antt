use Rattle.std.proofs.Common.{◌≡◌, ℕ, suc, ◌+◌, ◌-◌, ◌<◌, ap, ◌∙◌, subst, arith}
use Rattle.mm_nstable.specs.Nodes.{count_of}
use Rattle.mm_records.specs.Stands.{ns_in}
use Rattle.mm_check.specs.Findings.{used_from}
use Rattle.mm_check.specs.Reports.{collections_of}
use Rattle.mm_check.proofs.RecordLaws.{if_yes, if_no}
use Rattle.mm_check.proofs.ReportLaws.{collection_counted, none_behind, all_ahead}
use Rattle.mm_check.proofs.report.collection_count.Goals as goal
use Rattle.mm_check.proofs.report.collection_count.Goals.{then-has_collection, else-has_collection}

zero_and : (n : ℕ) → 0 + n ≡ n
zero_and n = omega arith

pub loop-node-init : goal.loop-node-init
loop-node-init c =
    record {
      left = zero_and _ ∙ ap (collections_of c.args.views.now.private) (all_ahead c.args.views.now.private);
      few = omega arith;
    }

pub loop-node-preserved : goal.loop-node-preserved
loop-node-preserved c =
    let image = c.args.views.now.private in
    let node = c.loop-node.node in
    let there = subst (λ (n : ℕ). c.loop-node.node < n) c.node_count-node-end.ensures c.loop-node-test.true in
    let step = collection_counted image node there c.has_collection.result c.has_collection.ensures in
    let rest = collections_of image (used_from (ns_in image) (node + 1) (count_of (ns_in image) - (node + 1))) in
    let left = c.loop-node.invariant.left in
    let few = c.loop-node.invariant.few in
    elim c.if-has_collection.branch [
      | then-has_collection w ↦
          let one : c.if-has_collection.collections ≡ c.loop-node.collections + 1 = w.collections-is in
          let more = step ∙ if_yes c.has_collection.result (suc rest) rest w.if-has_collection.true in
          record { left = omega (arith, one, more, left); few = omega (arith, one, few) }
      | else-has_collection w ↦
          let same : c.if-has_collection.collections ≡ c.loop-node.collections = w.collections-is in
          let more = step ∙ if_no c.has_collection.result (suc rest) rest w.if-has_collection.false in
          record { left = omega (arith, same, more, left); few = omega (arith, same, few) }
    ]

pub returns : goal.returns
returns c =
    let image = c.args.views.now.private in
    let left = c.loop-node.invariant.left in
    let none = ap (collections_of image) (none_behind image c.loop-node.node _ c.node_count-node-end.ensures c.loop-node-test.false) in
    omega (arith, left, none)
