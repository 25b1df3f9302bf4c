use Rattle.mm_bson.proofs.Again.{spelled_once}
use Rattle.mm_bson.proofs.laws.spellings_are_unique.Goals as goal

pub returns : goal.returns
returns c = spelled_once
