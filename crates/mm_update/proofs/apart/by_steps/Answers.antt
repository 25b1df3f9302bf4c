use Rattle.std.proofs.Common.{rules, ◌≡◌, refl, sym, ◌∙◌}
use Rattle.std.specs.declared.cmp.Ordering.TheVariants.{Less, Equal, Greater}
use Rattle.std.specs.Ordering.{nat_cmp}
use Rattle.std.specs.Cmp.Lexicographic.{slice_cmp}
use Rattle.mm_bson.specs.Path.{names}
use Rattle.mm_update.specs.Paths.{behind, by_steps}
use Rattle.mm_update.proofs.Ordered.{decided, shorter_first, longer_last}
use Rattle.mm_update.proofs.apart.by_steps.Goals as goal

pub returns-in_default : goal.returns-in_default
returns-in_default c =
    let a = c.split-a.result in
    let b = c.split-b.result in
    let compared : c.cmp.result ≡ slice_cmp nat_cmp a.name.now b.name.now = cc in
    let here : c.cmp.result ≡ by_steps (names c.loop-order.left.now) (names c.loop-order.right.now) =
    rw (c.split-a.ensures.steps, c.split-b.ensures.steps) (decided a.name.now b.name.now (behind a.rest) (behind b.rest) c.cmp.result compared c.in_default.not-Equal) in
    here ∙ c.loop-order.invariant.2

pub returns-in-None-None : goal.returns-in-None-None
returns-in-None-None c =
    let a = c.split-a.result in
    let b = c.split-b.result in
    let same : slice_cmp nat_cmp a.name.now b.name.now ≡ Equal = cc in
    let here : by_steps (names c.loop-order.left.now) (names c.loop-order.right.now) ≡ Equal =
    rw (c.split-a.ensures.steps, c.split-b.ensures.steps, c.in-None-None.is-0, c.in-None-None.is-1) (rw same refl) in
    sym here ∙ c.loop-order.invariant.2

pub returns-in-None-Some : goal.returns-in-None-Some
returns-in-None-Some c =
    let a = c.split-a.result in
    let b = c.split-b.result in
    let same : slice_cmp nat_cmp a.name.now b.name.now ≡ Equal = cc in
    let here : by_steps (names c.loop-order.left.now) (names c.loop-order.right.now) ≡ Less =
    rw (c.split-a.ensures.steps, c.split-b.ensures.steps, c.in-None-Some.is-0, c.in-None-Some.is-1) (rw same (shorter_first c.in-None-Some.field-0-1.now)) in
    sym here ∙ c.loop-order.invariant.2

pub returns-in-Some-None : goal.returns-in-Some-None
returns-in-Some-None c =
    let a = c.split-a.result in
    let b = c.split-b.result in
    let same : slice_cmp nat_cmp a.name.now b.name.now ≡ Equal = cc in
    let here : by_steps (names c.loop-order.left.now) (names c.loop-order.right.now) ≡ Greater =
    rw (c.split-a.ensures.steps, c.split-b.ensures.steps, c.in-Some-None.is-0, c.in-Some-None.is-1) (rw same (longer_last c.in-Some-None.field-0-0.now)) in
    sym here ∙ c.loop-order.invariant.2

pub loop-order-preserved : goal.loop-order-preserved
loop-order-preserved c =
    let a = c.split-a.result in
    let b = c.split-b.result in
    let same : slice_cmp nat_cmp a.name.now b.name.now ≡ Equal = cc in
    let here : by_steps (names c.loop-order.left.now) (names c.loop-order.right.now) ≡ by_steps (names c.in-Some-Some.after_a.now) (names c.in-Some-Some.after_b.now) =
    rw (c.split-a.ensures.steps, c.split-b.ensures.steps, c.in-Some-Some.is-0, c.in-Some-Some.is-1) (rw same refl) in
    (search rules, search rules, sym here ∙ c.loop-order.invariant.2)
