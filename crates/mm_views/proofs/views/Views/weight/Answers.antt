use Rattle.std.proofs.Common.{List, length, arith, ap}
use Rattle.mm_ranges.specs.declared.part.Made.{Made}
use Rattle.mm_views.specs.Held.{state_of}
use Rattle.mm_views.proofs.Weighing.{views_light}
use Rattle.mm_views.proofs.views.Views.weight.Goals as goal

pub weight-requires : goal.weight-requires
weight-requires c =
    let light = views_light (state_of c.self.inside.shared c.self.inside.private c.self.inside.made c.self.inside.opened c.self.inside.closed.items c.self.inside.prepared) c.self.invariant.sound in
    omega (arith, light)

pub overflow_add-result : goal.overflow_add-result
overflow_add-result c =
    let light = views_light (state_of c.self.inside.shared c.self.inside.private c.self.inside.made c.self.inside.opened c.self.inside.closed.items c.self.inside.prepared) c.self.invariant.sound in
    let made = ap (λ (ms : List Made). length ms) c.as_slice.ensures in
    let ranges = c.weight.ensures in
    omega (arith, light, made, ranges)

pub returns-clause-bound : goal.returns-clause-bound
returns-clause-bound c =
    let light = views_light (state_of c.self.inside.shared c.self.inside.private c.self.inside.made c.self.inside.opened c.self.inside.closed.items c.self.inside.prepared) c.self.invariant.sound in
    let made = ap (λ (ms : List Made). length ms) c.as_slice.ensures in
    let ranges = c.weight.ensures in
    omega (arith, light, made, ranges)
