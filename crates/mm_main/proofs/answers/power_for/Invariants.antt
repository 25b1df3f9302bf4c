use Rattle.std.proofs.Common.{◌-◌}
use Rattle.mm_main.proofs.RoomSteps.{Doubling}
use Rattle.mm_main.proofs.answers.power_for.Given as goal

abbrev pub invariant-doubles : goal.invariant-doubles
invariant-doubles l = Doubling l.len l.block

abbrev pub decreases-doubles : goal.decreases-doubles
decreases-doubles l = 4_194_304 - l.block
