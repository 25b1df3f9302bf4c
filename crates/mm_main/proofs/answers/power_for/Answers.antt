use Rattle.mm_main.proofs.RoomSteps.{doubling_first, doubling_more, doubling_done}
use Rattle.mm_main.proofs.answers.power_for.Goals as goal

pub doubles-init : goal.doubles-init
doubles-init c = doubling_first c.args.len

pub doubles-preserved : goal.doubles-preserved
doubles-preserved c = doubling_more c.args.len c.doubles.block c.requires c.doubles-test.true c.doubles.invariant

pub returns-clause-value : goal.returns-clause-value
returns-clause-value c = doubling_done c.args.len c.doubles.block c.doubles-test.false c.doubles.invariant
