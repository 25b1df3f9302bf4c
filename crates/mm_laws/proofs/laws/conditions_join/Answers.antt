use Rattle.mm_laws.proofs.Conditions.{fields_join}
use Rattle.mm_laws.proofs.laws.conditions_join.Goals as goal

pub returns : goal.returns
returns c = fields_join
