use Rattle.std.proofs.Common.{◌+◌, ◌<◌, length, sym, subst}
use Rattle.mm_held.specs.Images.{Imaged, imaged}
use Rattle.mm_held.proofs.Imaging.{some_waits, one_applied}
use Rattle.mm_held.proofs.images.Images.apply_one.Goals as goal

pub apply-requires : goal.apply-requires
apply-requires c =
    let v = imaged c.self.inside.views c.self.inside.first c.self.inside.applied c.self.inside.giver in
    some_waits v c.self.invariant.0 (subst (λ (w : Imaged). w.applied + 1 < w.first + length w.given) (sym c.self.view_is) c.requires)

pub returns-clause-imaged : goal.returns-clause-imaged
returns-clause-imaged c =
    let v = imaged c.self.inside.views c.self.inside.first c.self.inside.applied c.self.inside.giver in
    one_applied v c.apply.new.self c.apply.ensures.applied c.self.invariant.0 (subst (λ (w : Imaged). w.applied + 1 < w.first + length w.given) (sym c.self.view_is) c.requires) c.apply.ensures.coverage

pub invariant_of-self : goal.invariant_of-self
invariant_of-self c =
    let v = imaged c.self.inside.views c.self.inside.first c.self.inside.applied c.self.inside.giver in
    (one_applied v c.apply.new.self c.apply.ensures.applied c.self.invariant.0 (subst (λ (w : Imaged). w.applied + 1 < w.first + length w.given) (sym c.self.view_is) c.requires) c.apply.ensures.coverage, c.self.invariant.1, c.self.invariant.2)
