use Rattle.std.proofs.Common.{◌∙◌, subst, sym, ap}
use Rattle.mm_held.specs.Held.{HeldView, IsHeld, log_of}
use Rattle.mm_held.proofs.Groups.{all_groups}
use Rattle.mm_held.proofs.held.Held.log.Goals as goal

pub returns-clause-log : goal.returns-clause-log
returns-clause-log g c = c.as_slice.ensures.value ∙ (sym (all_groups c.self.inside.counts.items c.self.inside.log.items) ∙ ap log_of c.self.view_is)

pub returns-clause-fact : goal.returns-clause-fact
returns-clause-fact g c =
    subst (λ (v : HeldView g.row.E.Denot g.row.P.Denot). IsHeld (g.E.Engine.means v.engine) g.P.Probe v) c.self.view_is c.self.invariant.held
