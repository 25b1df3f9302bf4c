use Rattle.std.proofs.Common.{arith}
use Rattle.std.specs.Prelude.{is_some, reverse}
use Rattle.mm_views.specs.Held.{drafting_at}
use Rattle.mm_views.proofs.Weighing.{draft_light}
use Rattle.mm_views.proofs.draft.Draft.weigh.Goals as goal

pub weight-requires : goal.weight-requires
weight-requires c =
    let light = draft_light (reverse c.self.inside.saved.items) (drafting_at c.self.inside.shared c.self.inside.image c.self.inside.saved.items c.self.inside.made.items c.self.inside.declared c.self.inside.before c.self.inside.opened c.self.inside.closed.items c.self.inside.prepared (is_some c.self.inside.reserved)) c.self.invariant.draft in
    omega (arith, light)

pub overflow_mul-result : goal.overflow_mul-result
overflow_mul-result c =
    let light = draft_light (reverse c.self.inside.saved.items) (drafting_at c.self.inside.shared c.self.inside.image c.self.inside.saved.items c.self.inside.made.items c.self.inside.declared c.self.inside.before c.self.inside.opened c.self.inside.closed.items c.self.inside.prepared (is_some c.self.inside.reserved)) c.self.invariant.draft in
    let made = c.len.ensures in
    omega (arith, light, made)

pub overflow_add-result : goal.overflow_add-result
overflow_add-result c =
    let light = draft_light (reverse c.self.inside.saved.items) (drafting_at c.self.inside.shared c.self.inside.image c.self.inside.saved.items c.self.inside.made.items c.self.inside.declared c.self.inside.before c.self.inside.opened c.self.inside.closed.items c.self.inside.prepared (is_some c.self.inside.reserved)) c.self.invariant.draft in
    let made = c.len.ensures in
    let ranges = c.weight.ensures in
    omega (arith, light, made, ranges)

pub returns-clause-bound : goal.returns-clause-bound
returns-clause-bound c =
    let light = draft_light (reverse c.self.inside.saved.items) (drafting_at c.self.inside.shared c.self.inside.image c.self.inside.saved.items c.self.inside.made.items c.self.inside.declared c.self.inside.before c.self.inside.opened c.self.inside.closed.items c.self.inside.prepared (is_some c.self.inside.reserved)) c.self.invariant.draft in
    let made = c.len.ensures in
    let ranges = c.weight.ensures in
    omega (arith, light, made, ranges)
