use Rattle.mm_update.proofs.Makes.{pushes_behind}
use Rattle.mm_update.proofs.laws.push_puts_behind.Goals as goal

pub returns : goal.returns
returns c = pushes_behind
