use Rattle.mm_laws.proofs.First as f
use Rattle.mm_laws.proofs.laws.first_bytes_decide.Goals as goal

pub returns : goal.returns
returns c = f.first_bytes_decide
