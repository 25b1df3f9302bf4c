use Rattle.std.proofs.Common.{arith, sym}
use Rattle.mm_ranges.proofs.Bounds.{weighed}
use Rattle.mm_ranges.proofs.room_set.RoomSet.weight.Goals as goal

pub overflow_mul-result : goal.overflow_mul-result
overflow_mul-result c =
    let all = weighed c.self.inside.tally c.self.inside.starts.entries c.args.self.now c.self.invariant.counts c.self.view_is in
    omega (arith, c.requires)

pub overflow_add-result : goal.overflow_add-result
overflow_add-result c =
    let all = weighed c.self.inside.tally c.self.inside.starts.entries c.args.self.now c.self.invariant.counts c.self.view_is in
    omega (arith, c.requires)

pub returns : goal.returns
returns c = sym (weighed c.self.inside.tally c.self.inside.starts.entries c.args.self.now c.self.invariant.counts c.self.view_is)
