use Rattle.std.proofs.Common.{◌-◌, length}
use Rattle.mm_main.proofs.ChainSteps.{Following}
use Rattle.mm_main.proofs.chain.follow.Given as goal

abbrev pub invariant-records : goal.invariant-records
invariant-records l = Following l.file l.fn.first l.ats.items l.link

abbrev pub decreases-records : goal.decreases-records
decreases-records l = 1_048_577 - length l.ats.items
