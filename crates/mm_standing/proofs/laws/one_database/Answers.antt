use Rattle.mm_standing.proofs.OneDatabase.{one_database, one_map, stands_for_one}
use Rattle.mm_standing.proofs.laws.one_database.Goals as goal

pub returns-clause-each : goal.returns-clause-each
returns-clause-each c = one_database

pub returns-clause-map : goal.returns-clause-map
returns-clause-map c = one_map

pub returns-clause-stands : goal.returns-clause-stands
returns-clause-stands c = stands_for_one
