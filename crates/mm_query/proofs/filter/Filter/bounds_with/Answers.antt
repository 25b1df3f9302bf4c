use Rattle.std.proofs.Common.{◌≡◌, Some, ap, ◌∙◌}
use Rattle.mm_query.specs.declared.side.Side.TheVariants.{Low, High}
use Rattle.mm_query.specs.Bounds.{key_from, bound}
use Rattle.mm_query.proofs.Within.{all_within, equal_bound}
use Rattle.mm_query.proofs.filter.Filter.bounds_with.Goals as goal

pub returns-clause-between : goal.returns-clause-between
returns-clause-between c =
    let spec = c.args.spec.now in
    let low : c.in_ok-low.low ≡ bound Low c.args.self.now spec = c.in_ok-low.ensures ∙ ap (λ d. bound Low d spec) c.self.view_is in
    let high : c.in_ok-high.high ≡ bound High c.args.self.now spec = c.in_ok-high.ensures ∙ ap (λ d. bound High d spec) c.self.view_is in
    all_within c.args.self.now spec c.in_ok-low.low c.in_ok-high.high low high

pub returns-clause-equality : goal.returns-clause-equality
returns-clause-equality c = λ t is.
    let spec = c.args.spec.now in
    let low : c.in_ok-low.low ≡ Some (key_from Low t spec) = c.in_ok-low.ensures ∙ ap (λ d. bound Low d spec) c.self.view_is ∙ equal_bound Low spec c.args.self.now t is in
    let high : c.in_ok-high.high ≡ Some (key_from High t spec) = c.in_ok-high.ensures ∙ ap (λ d. bound High d spec) c.self.view_is ∙ equal_bound High spec c.args.self.now t is in
    (low, high)

pub returns-clause-exact : goal.returns-clause-exact
returns-clause-exact c =
    let spec = c.args.spec.now in
    let low : c.in_ok-low.low ≡ bound Low c.args.self.now spec = c.in_ok-low.ensures ∙ ap (λ d. bound Low d spec) c.self.view_is in
    let high : c.in_ok-high.high ≡ bound High c.args.self.now spec = c.in_ok-high.ensures ∙ ap (λ d. bound High d spec) c.self.view_is in
    (low, high)
