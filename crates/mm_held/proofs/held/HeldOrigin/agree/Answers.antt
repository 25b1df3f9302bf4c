use Rattle.std.proofs.Common.{◌≡◌, refl, sym, ◌∙◌, ap, subst}
use Rattle.mm_tie.specs.Items.{image_of, up_to}
use Rattle.mm_held.specs.Images.{Imaged}
use Rattle.mm_held.proofs.Sound.{same_sound, images_there}
use Rattle.mm_held.proofs.held.HeldOrigin.agree.Goals as goal

pub agree-requires : goal.agree-requires
agree-requires g c = c.requires ∙ sym (ap (λ (i : Imaged). i.ring) (images_there c.self.view_is))

pub invariant_of-self : goal.invariant_of-self
invariant_of-self g c = same_sound c.self.invariant c.agree.ensures.same refl

pub returns-clause-agree : goal.returns-clause-agree
returns-clause-agree g c = sym (ap (λ (i : Imaged). i.given) (images_there c.self.view_is)) ∙ c.agree.ensures.agree

pub returns-clause-shared : goal.returns-clause-shared
returns-clause-shared g c = subst (λ (i : Imaged). i.views.shared ≡ image_of (up_to i.applied i.given)) (images_there c.self.view_is) c.agree.ensures.shared
