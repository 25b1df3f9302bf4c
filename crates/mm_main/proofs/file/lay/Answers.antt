use Rattle.std.proofs.Common.{arith}
use Rattle.mm_main.proofs.DraftedSteps.{is_laid}
use Rattle.mm_main.proofs.file.lay.Goals as goal

pub returns : goal.returns
returns c = is_laid c.args.draft.now c.write.new.self c.args.at c.args.bytes.now (omega arith) c.write.ensures.written c.write.ensures.none
