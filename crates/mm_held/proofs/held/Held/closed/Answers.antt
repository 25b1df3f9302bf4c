use Rattle.std.proofs.Common.{◌≡◌, ◌+◌, length, subst, arith}
use Rattle.mm_held.specs.Held.{HeldView}
use Rattle.mm_held.proofs.Groups.{count_groups}
use Rattle.mm_held.proofs.held.Held.closed.Goals as goal

pub returns : goal.returns
returns g c =
    let groups = count_groups c.self.inside.counts.items c.self.inside.log.items in
    subst (λ (v : HeldView g.row.E.Denot g.row.P.Denot). c.last.result ≡ v.images.first + length v.groups) c.self.view_is (omega (arith, groups, c.last.ensures.last, c.self.invariant.items))
