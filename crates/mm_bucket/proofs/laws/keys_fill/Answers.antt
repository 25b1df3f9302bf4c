use Rattle.mm_bucket.proofs.Filling.{no_gap}
use Rattle.mm_bucket.proofs.laws.keys_fill.Goals as goal

pub returns : goal.returns
returns c = no_gap
