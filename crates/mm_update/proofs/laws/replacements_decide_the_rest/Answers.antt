use Rattle.mm_update.proofs.Makes.{replaces}
use Rattle.mm_update.proofs.laws.replacements_decide_the_rest.Goals as goal

pub returns : goal.returns
returns c = replaces
