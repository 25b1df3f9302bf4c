use Rattle.mm_bucket.proofs.Spelling.{spelled_once}
use Rattle.mm_bucket.proofs.laws.spelled_once.Goals as goal

pub returns : goal.returns
returns c = spelled_once
