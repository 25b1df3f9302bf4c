use Rattle.mm_script.proofs.WellReadLaws.{scripts_are_well_read}
use Rattle.mm_script.proofs.laws.scripts_are_well_read.Goals as goal

pub returns : goal.returns
returns c = scripts_are_well_read
