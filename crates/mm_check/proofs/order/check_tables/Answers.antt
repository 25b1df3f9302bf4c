use Rattle.std.proofs.Common.{sym}
use Rattle.mm_model.specs.declared.finding.What.TheVariants.{File}
use Rattle.mm_check.proofs.CheckSteps.{found_finds}
use Rattle.mm_check.proofs.order.check_tables.Goals as goal

pub check_nodes-requires : goal.check_nodes-requires
check_nodes-requires c = record { files = sym c.in-None.ensures; forms = c.requires }

pub returns-in-Some : goal.returns-in-Some
returns-in-Some c = record { clear = tt; found = found_finds (Unit {0}) c.args.name.now c.args.views.now.private File c.in-Some.at c.found.result c.found.ensures (sym c.in-Some.ensures) }

pub returns-in-None : goal.returns-in-None
returns-in-None c = record { clear = c.check_nodes.ensures.clear; found = c.check_nodes.ensures.found }
