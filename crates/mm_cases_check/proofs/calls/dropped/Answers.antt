use Rattle.std.proofs.Common.{ℕ, List, Bool, ◌∙◌, ap, subst}
use Rattle.std.specs.Prelude.{not}
use Rattle.std.proofs.lemmas.Result.{on_ok_weaker}
use Rattle.mm_nstable.specs.FreeChain.{IsFreeName}
use Rattle.mm_cases_check.proofs.CallLaws.{drops}
use Rattle.mm_cases_check.proofs.calls.dropped.Goals as goal

pub drop_namespace-requires : goal.drop_namespace-requires
drop_namespace-requires c =
    let g = c.requires.good in
    drops c.args.draft.now.image g.0 c.in-Some.free g.1.0 c.in-Some-find.node g.1.1 c.in-Some.ensures.0 c.find-2.result c.find-2.ensures.is (c.is_none.ensures ∙ ap (λ (b : Bool). not b) c.if-is_none.false)
    (record { used = c.in-Some-find.ensures.used; named = λ f. c.requires.named (subst (λ (m : List ℕ). IsFreeName m) c.in-Some-find.ensures.name f) })

pub returns : goal.returns
returns c =
    let g = c.requires.good in
    let x = drops c.args.draft.now.image g.0 c.in-Some.free g.1.0 c.in-Some-find.node g.1.1 c.in-Some.ensures.0 c.find-2.result c.find-2.ensures.is (c.is_none.ensures ∙ ap (λ (b : Bool). not b) c.if-is_none.false)
    (record { used = c.in-Some-find.ensures.used; named = λ f. c.requires.named (subst (λ (m : List ℕ). IsFreeName m) c.in-Some-find.ensures.name f) }) in
    on_ok_weaker c.drop_namespace.result (λ f. let t = f x.0 x.1.0 x.1.1 in (c.in-Some.free, (t.0, t.1.0))) c.drop_namespace.ensures.stands
