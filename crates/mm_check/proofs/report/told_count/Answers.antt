use Rattle.std.proofs.Common.{◌≡◌, ℕ, ◌+◌, ◌-◌, ◌<◌, ◌^◌, sym, ap, ◌∙◌, subst, arith}
use Rattle.std.specs.Prelude.{min}
use Rattle.mm_nstable.specs.Nodes.{count_of}
use Rattle.mm_records.specs.Stands.{ns_in}
use Rattle.mm_check.specs.ExtentChain.{nat_of}
use Rattle.mm_check.specs.Findings.{used_from, nodes_in, details_at}
use Rattle.mm_check.specs.Reports.{told_of}
use Rattle.mm_check.proofs.RecordLaws.{if_yes, if_no}
use Rattle.mm_check.proofs.ReportLaws.{told_counted, none_behind, all_ahead, sum_more, sum_whole}
use Rattle.mm_check.proofs.report.told_count.Goals as goal
use Rattle.mm_check.proofs.report.told_count.Goals.{then-has_collection, else-has_collection}

zero_and : (n : ℕ) → 0 + n ≡ n
zero_and n = omega arith

pub loop-node-init : goal.loop-node-init
loop-node-init c =
    record {
      left = ap (λ (n : ℕ). min n (2 ^ 64 - 1)) (zero_and _ ∙ ap (told_of c.args.views.now.private) (all_ahead c.args.views.now.private));
      fits = omega arith;
    }

pub loop-node-preserved : goal.loop-node-preserved
loop-node-preserved c =
    let image = c.args.views.now.private in
    let node = c.loop-node.node in
    let there = subst (λ (n : ℕ). c.loop-node.node < n) c.node_count-node-end.ensures c.loop-node-test.true in
    let step = told_counted image node there c.has_collection.result c.has_collection.ensures in
    let told = nat_of (details_at image node).nrecords in
    let rest = told_of image (used_from (ns_in image) (node + 1) (count_of (ns_in image) - (node + 1))) in
    let all = told_of image (nodes_in image) in
    let fits = c.loop-node.invariant.fits in
    elim c.if-has_collection.branch [
      | then-has_collection w ↦
          let more = step ∙ ap (λ (n : ℕ). n + rest) (if_yes c.has_collection.result told 0 w.if-has_collection.true) in
          let sum : c.if-has_collection.documents ≡ min (c.loop-node.documents + nat_of (details_at c.args.views.now.private c.loop-node.node).nrecords) (2 ^ 64 - 1) =
          w.documents-is ∙ w.saturating_add-documents.ensures ∙ ap (λ (n : ℕ). min (c.loop-node.documents + n) (2 ^ 64 - 1)) w.told.ensures in
          record {
            left = ap (λ (n : ℕ). min (n + rest) (2 ^ 64 - 1)) sum
                ∙ sum_more c.loop-node.documents told rest all (2 ^ 64 - 1) (ap (λ (n : ℕ). min (c.loop-node.documents + n) (2 ^ 64 - 1)) (sym more) ∙ c.loop-node.invariant.left);
            fits = omega (arith, sum);
          }
      | else-has_collection w ↦
          let more = step ∙ ap (λ (n : ℕ). n + rest) (if_no c.has_collection.result told 0 w.if-has_collection.false) ∙ zero_and rest in
          let same : c.if-has_collection.documents ≡ c.loop-node.documents = w.documents-is in
          record {
            left = ap (λ (n : ℕ). min (n + rest) (2 ^ 64 - 1)) same ∙ ap (λ (n : ℕ). min (c.loop-node.documents + n) (2 ^ 64 - 1)) (sym more) ∙ c.loop-node.invariant.left;
            fits = omega (arith, same, fits);
          }
    ]

pub returns : goal.returns
returns c =
    let image = c.args.views.now.private in
    let none = ap (told_of image) (none_behind image c.loop-node.node _ c.node_count-node-end.ensures c.loop-node-test.false) in
    sum_whole c.loop-node.documents _ (told_of image (nodes_in image)) (2 ^ 64 - 1) c.loop-node.invariant.left none c.loop-node.invariant.fits
