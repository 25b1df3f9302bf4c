use Rattle.mm_model.proofs.Nodes.{create_is_full}
use Rattle.mm_model.proofs.laws.create_is_full.Goals as goal

pub returns : goal.returns
returns c = create_is_full
