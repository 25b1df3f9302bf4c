use Rattle.std.proofs.Common.{rules, ◌≡◌, Some, sym, ap, ◌∙◌, arith}
use Rattle.std.specs.Prelude.{option_map}
use Rattle.mm_bson.specs.declared.doc.Value.{Value}
use Rattle.mm_bson.specs.View.{tree}
use Rattle.mm_bson.specs.Path.{names, find}
use Rattle.mm_update.specs.Paths.{behind}
use Rattle.mm_update.specs.Meeting.{blocked, deeper, farther, meet_inside, meet}
use Rattle.mm_update.proofs.Meets.{farther-deeper, step_meets, no_document}
use Rattle.mm_update.proofs.long.meeting_with.Goals as goal

pub returns-in_default-value : goal.returns-in_default-value
returns-in_default-value c =
    let es = c.loop-value.inside.now in
    let name = c.split-first.result.name.now in
    let rest = c.in-Some-rest.behind.now in
    let v = c.in-Some.value.now in
    let found : find name es ≡ Some (tree v) = ap (λ n. find n es) (sym c.as_bytes.ensures.value) ∙ sym c.find.ensures.value ∙ ap (option_map (λ w. tree w.now)) c.in-Some.is in
    let here : meet (names c.loop-value.rest.now) es ≡ blocked =
    step_meets c.loop-value.rest.now name c.split-first.result.rest rest es (tree v) c.split-first.ensures.steps (ap behind c.in-Some-rest.is) found ∙ no_document v (meet (names rest)) c.in_default-value.not-Document in
    ap (farther c.loop-value.kept) (sym here) ∙ c.loop-value.invariant.told

pub loop-value-preserved : goal.loop-value-preserved
loop-value-preserved c =
    let es = c.loop-value.inside.now in
    let name = c.split-first.result.name.now in
    let rest = c.in-Some-rest.behind.now in
    let v = c.in-Some.value.now in
    let inner = c.in-Document.inner in
    let shorter = rw c.in-Some-rest.is at c.split-first.ensures.shorter in
    let found : find name es ≡ Some (tree v) = ap (λ n. find n es) (sym c.as_bytes.ensures.value) ∙ sym c.find.ensures.value ∙ ap (option_map (λ w. tree w.now)) c.in-Some.is in
    let here : meet (names c.loop-value.rest.now) es ≡ deeper (meet (names rest) inner) =
    step_meets c.loop-value.rest.now name c.split-first.result.rest rest es (tree v) c.split-first.ensures.steps (ap behind c.in-Some-rest.is) found ∙ ap (λ (w : Value). meet_inside (meet (names rest)) (tree w)) c.in-Document.is in
    record {
      text = search rules;
      within = omega (arith, shorter);
      told = sym (farther-deeper c.loop-value.kept (meet (names rest) inner)) ∙ ap (farther c.loop-value.kept) (sym here) ∙ c.loop-value.invariant.told;
    }
