use Rattle.mm_laws.proofs.Answering.{too_large_first}
use Rattle.mm_laws.proofs.laws.too_large_comes_first.Goals as goal

pub returns : goal.returns
returns c = too_large_first
