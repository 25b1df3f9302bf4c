use Rattle.std.proofs.Common.{length, map, sym, ◌∙◌, ap, subst, arith}
use Rattle.mm_held.specs.Held.{HeldView, IsHeld, log_of}
use Rattle.mm_held.proofs.Groups.{counted_groups, all_groups}
use Rattle.mm_held.proofs.held.Held.into_end.Goals as goal

pub returns-clause-log : goal.returns-clause-log
returns-clause-log g c = (sym (all_groups c.self.inside.counts.items c.self.inside.log.items) ∙ ap log_of c.self.view_is)

pub returns-clause-groups : goal.returns-clause-groups
returns-clause-groups g c =
    sym (counted_groups c.self.inside.counts.items c.self.inside.log.items (omega (arith, c.self.invariant.closed_are, c.self.invariant.within)))
    ∙ ap (λ (v : HeldView g.row.E.Denot g.row.P.Denot). map length v.groups) c.self.view_is

pub returns-clause-probe : goal.returns-clause-probe
returns-clause-probe g c = ap (λ (v : HeldView g.row.E.Denot g.row.P.Denot). v.probe) c.self.view_is

pub returns-clause-fact : goal.returns-clause-fact
returns-clause-fact g c =
    subst (λ (v : HeldView g.row.E.Denot g.row.P.Denot). IsHeld (g.E.Engine.means v.engine) g.P.Probe v) c.self.view_is c.self.invariant.held
