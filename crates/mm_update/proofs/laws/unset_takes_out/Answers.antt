use Rattle.mm_update.proofs.Makes.{takes_out}
use Rattle.mm_update.proofs.laws.unset_takes_out.Goals as goal

pub returns : goal.returns
returns c = takes_out
