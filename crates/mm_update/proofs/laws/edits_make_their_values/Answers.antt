use Rattle.mm_update.proofs.Makes.{makes_value}
use Rattle.mm_update.proofs.laws.edits_make_their_values.Goals as goal

pub returns : goal.returns
returns c = makes_value
