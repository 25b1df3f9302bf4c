use Rattle.mm_model.proofs.Found.{remove_all}
use Rattle.mm_model.proofs.laws.remove_all_leaves_none.Goals as goal

pub returns : goal.returns
returns c = remove_all
