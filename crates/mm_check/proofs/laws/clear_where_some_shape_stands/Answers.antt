use Rattle.mm_check.proofs.CheckStands.{shape_of, found_shape_stands}
use Rattle.mm_check.proofs.StandsClear.{nothing_found}
use Rattle.mm_check.proofs.StandsShape.{shape_is_found, one_shape}
use Rattle.mm_check.proofs.laws.clear_where_some_shape_stands.Goals as goal

pub returns-clause-stands : goal.returns-clause-stands
returns-clause-stands c = shape_of

pub returns-clause-clear : goal.returns-clause-clear
returns-clause-clear c = nothing_found

pub returns-clause-found : goal.returns-clause-found
returns-clause-found c = found_shape_stands

pub returns-clause-same : goal.returns-clause-same
returns-clause-same c = shape_is_found

pub returns-clause-one : goal.returns-clause-one
returns-clause-one c = one_shape
