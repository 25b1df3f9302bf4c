use Rattle.std.proofs.Common.{◌∙◌}
use Rattle.mm_check.proofs.order.extents_of_nodes.Goals as goal

pub chains_of-requires : goal.chains_of-requires
chains_of-requires c = record { clear = c.requires.clear; places = c.deref.ensures.value ∙ c.in-Ok.ensures; nodes = c.requires.nodes }

pub returns-in-Err : goal.returns-in-Err
returns-in-Err c = record { clear = tt; found = tt }

pub returns-in-Ok : goal.returns-in-Ok
returns-in-Ok c = record { clear = c.chains_of.ensures.clear; found = c.chains_of.ensures.found }
