use Rattle.mm_script.proofs.RenderLaws.{replies_are_known}
use Rattle.mm_script.proofs.laws.replies_are_known.Goals as goal

pub returns : goal.returns
returns c = replies_are_known
