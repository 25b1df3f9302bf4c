use Rattle.mm_update.proofs.Makes.{adds_numbers}
use Rattle.mm_update.proofs.laws.inc_adds.Goals as goal

pub returns : goal.returns
returns c = adds_numbers
