use Rattle.mm_recover.proofs.Depth.{any_depth}
use Rattle.mm_recover.proofs.recovery.any_depth.Goals as goal

pub returns : goal.returns
returns c = any_depth
