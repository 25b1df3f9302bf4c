use Rattle.std.proofs.Common.{◌+◌, ap}
use Rattle.mm_trees.specs.Asked.{places_asked}
use Rattle.mm_trees.specs.declared.asked.Asked.{Asked}
use Rattle.mm_trees.proofs.asked.Asked.and_one.Goals as goal

pub returns : goal.returns
returns c = ap (λ (x : Asked). places_asked x + 1) c.of.ensures
