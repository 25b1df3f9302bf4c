use Rattle.std.proofs.Common.{refl}
use Rattle.mm_main.specs.declared.finding.What.TheVariants.{File}
use Rattle.mm_main.proofs.ChainSteps.{if_found}
use Rattle.mm_main.proofs.FindingSteps.{excludes}
use Rattle.mm_main.proofs.LayoutSteps.{if_found_then}
use Rattle.mm_main.proofs.reading.read_file.Goals as goal

pub returns-in_default-clause-only : goal.returns-in_default-clause-only
returns-in_default-clause-only c = if_found (Unit {0}) _ (record { at = 0; what = File }) _ c.wrong.ensures (λ collection docs holds. excludes c.args.file.now 0 File (refl, c.in_default.ensures.none) collection docs holds)

pub returns-in-Err-clause-only : goal.returns-in-Err-clause-only
returns-in-Err-clause-only c = if_found_then (Unit {0}) (Unit {0}) c.in-Err.fault _ _ (λ at what f collection docs holds. excludes c.args.file.now at what f collection docs holds) c.in-Err.ensures.found
