use Rattle.std.proofs.Common.{sym, ◌∙◌}
use Rattle.mm_main.proofs.ChainSteps.{last_is}
use Rattle.mm_main.proofs.chain.last_or.Goals as goal

pub returns-in-Some : goal.returns-in-Some
returns-in-Some c = c.in-Some.ensures.item.1 ∙ sym (last_is c.args.other c.in-Some.at.now c.args.ats.now c.in-Some.ensures.item.3.0)
