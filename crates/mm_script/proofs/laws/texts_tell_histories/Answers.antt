use Rattle.mm_script.proofs.RenderLaws.{texts_tell}
use Rattle.mm_script.proofs.laws.texts_tell_histories.Goals as goal

pub returns : goal.returns
returns c = texts_tell
