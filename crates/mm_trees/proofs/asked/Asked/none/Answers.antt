use Rattle.std.proofs.Common.{refl}
use Rattle.mm_trees.proofs.asked.Asked.none.Goals as goal

pub returns : goal.returns
returns c = refl
