use Rattle.std.proofs.Common.{ℕ, List, sym, ap, ◌∙◌}
use Rattle.mm_main.specs.Inserts.{collection_in, unplayed}
use Rattle.mm_main.proofs.PlayedSteps.{passed_more, passed_found}
use Rattle.mm_main.proofs.script.first_unplayed.Goals as goal

pub returns-in-Some-clause-some : goal.returns-in-Some-clause-some
returns-in-Some-clause-some c =
    let is = ap (λ (coll : List ℕ). unplayed coll c.action-item.result) (sym c.collection_in-collection.ensures) ∙ sym c.unplayed.ensures ∙ c.in-Some.is in
    passed_found (collection_in c.args.actions.now) c.args.actions.now c.loop-action.action-index c.line_of.result c.action-item.result c.in-Some.what c.loop-action-test.true c.action-item.is is c.line_of.ensures c.loop-action.invariant

pub loop-action-preserved : goal.loop-action-preserved
loop-action-preserved c =
    let is = ap (λ (coll : List ℕ). unplayed coll c.action-item.result) (sym c.collection_in-collection.ensures) ∙ sym c.unplayed.ensures ∙ c.in_default.is in
    passed_more (collection_in c.args.actions.now) c.args.actions.now c.loop-action.action-index c.action-item.result c.loop-action-test.true c.action-item.is is c.loop-action.invariant
