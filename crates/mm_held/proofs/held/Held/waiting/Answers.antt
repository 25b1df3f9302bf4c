use Rattle.std.proofs.Common.{◌≡◌, ◌-◌, length, subst, arith, rules}
use Rattle.mm_held.specs.Held.{HeldView}
use Rattle.mm_held.proofs.Closing.{how_many}
use Rattle.mm_held.proofs.held.Held.waiting.Goals as goal

pub returns : goal.returns
returns g c =
    let len : c.len.result ≡ length c.self.inside.log.items = search rules in
    subst (λ (v : HeldView g.row.E.Denot g.row.P.Denot). c.len.result - c.self.inside.closed ≡ length v.waiting) c.self.view_is
    (how_many c.self.inside.counts.items c.self.inside.log.items c.self.inside.closed (c.len.result - c.self.inside.closed) c.self.invariant.closed_are c.self.invariant.within (omega (arith, len, c.self.invariant.within)))
