use Rattle.std.proofs.Common.{sym, ◌∙◌, ap, subst}
use Rattle.mm_views.specs.State.{State}
use Rattle.mm_held.specs.Meaning.{Stored}
use Rattle.mm_held.specs.Images.{Imaged}
use Rattle.mm_held.proofs.images.Images.step.Goals as goal

pub attempt-views-requires-clause-stands : goal.attempt-views-requires-clause-stands
attempt-views-requires-clause-stands g c =
    subst (λ (w : State). (x : Stored) × (g.E.Engine.means c.args.engine.now).stands w.private x) (sym (ap (λ (v : Imaged). v.views) c.self.view_is) ∙ sym c.replace-views.ensures.value) c.requires.stands
