use Rattle.std.proofs.Common.{arith}
use Rattle.std.specs.FinMap.{get}
use Rattle.mm_views.specs.Held.{state_of}
use Rattle.mm_views.proofs.Lengths.{len_told}
use Rattle.mm_views.proofs.Sound.{shared_small}
use Rattle.mm_views.proofs.views.Views.shared_len.Goals as goal

pub overflow_cast-result : goal.overflow_cast-result
overflow_cast-result c =
    let small = shared_small (state_of c.self.inside.shared c.self.inside.private c.self.inside.made c.self.inside.opened c.self.inside.closed.items c.self.inside.prepared) c.args.file c.self.invariant.sound in
    let same = len_told (get c.self.inside.shared c.args.file) c.in-Some.len c.in-Some.ensures in
    omega (arith, small, same)
