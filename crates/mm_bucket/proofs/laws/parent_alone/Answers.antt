use Rattle.mm_bucket.proofs.Parents.{parent_written}
use Rattle.mm_bucket.proofs.laws.parent_alone.Goals as goal

pub returns : goal.returns
returns c = λ bytes b s. parent_written bytes b c.args.parent s
