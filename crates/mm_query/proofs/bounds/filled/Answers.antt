use Rattle.std.proofs.Common.{◌≡◌, ◌+◌, drop, sym, ap, ◌∙◌}
use Rattle.mm_bson.specs.Tree.{append}
use Rattle.mm_bson.specs.View.{tree, elements_of}
use Rattle.mm_bson.proofs.Loop.{append-none}
use Rattle.mm_query.proofs.Firsts.{element_at, no_element_at}
use Rattle.mm_query.specs.Bounds.{extreme, turned, extremes}
use Rattle.mm_query.proofs.Filling.{extremes_on}
use Rattle.mm_query.proofs.bounds.filled.Goals as goal

pub loop-field-preserved : goal.loop-field-preserved
loop-field-preserved c =
    let side = c.args.side in
    let fields = c.args.fields.now in
    let i = c.loop-field.field-index in
    let field = c.field-item.result in
    let last = tree c.extreme-last.result in
    let split = element_at field fields i c.loop-field-test.true c.field-item.is in
    let same : last ≡ extreme (turned (tree field.value) side) = c.extreme-last.ensures.value ∙ ap extreme c.turned.ensures in
    extremes_on side c.loop-field.key (elements_of (drop i fields)) _ c.loop-field.invariant field.name (tree field.value) last (elements_of (drop (i + 1) fields)) c.put-in-loop-field.new.key split same c.in_ok-put-2.ensures

pub returns : goal.returns
returns c =
    let side = c.args.side in
    sym (append-none c.loop-field.key) ∙ ap (λ es. append c.loop-field.key (extremes side es)) (sym (no_element_at c.args.fields.now c.loop-field.field-index c.loop-field-test.false)) ∙ c.loop-field.invariant
