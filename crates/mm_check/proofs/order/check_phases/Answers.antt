use Rattle.mm_check.proofs.order.check_phases.Goals as goal

pub check_chained-requires : goal.check_chained-requires
check_chained-requires c = record { clear = c.in-Ok.ensures.clear; forms = c.requires }

pub returns-in-Err : goal.returns-in-Err
returns-in-Err c = record { clear = tt; found = c.in-Err.ensures.found }

pub returns-in-Ok : goal.returns-in-Ok
returns-in-Ok c = record { clear = c.check_chained.ensures.clear; found = c.check_chained.ensures.found }
