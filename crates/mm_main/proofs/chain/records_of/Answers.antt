use Rattle.std.proofs.Common.{arith, ap}
use Rattle.mm_main.specs.declared.chain.Link.TheVariants.{End}
use Rattle.mm_main.specs.Findings.{last_or}
use Rattle.mm_main.proofs.ChainSteps.{last_inside}
use Rattle.mm_main.proofs.chain.records_of.Goals as goal

pub is_last-requires : goal.is_last-requires
is_last-requires c = omega (arith, ap (last_or 0) c.deref.ensures.value, last_inside c.args.file.now c.args.extent.now.first c.in_ok-ats.ats.items End c.in_ok-ats.ensures.followed)
