use Rattle.mm_laws.proofs.Ending.{types_decide, depths_decide, sizes_decide, names_decide}
use Rattle.mm_laws.proofs.laws.faults_tell_ends.Goals as goal

pub returns-clause-kind : goal.returns-clause-kind
returns-clause-kind c = types_decide

pub returns-clause-depth : goal.returns-clause-depth
returns-clause-depth c = depths_decide

pub returns-clause-size : goal.returns-clause-size
returns-clause-size c = sizes_decide

pub returns-clause-name : goal.returns-clause-name
returns-clause-name c = names_decide
