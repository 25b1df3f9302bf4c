use Rattle.mm_laws.proofs.Refusing.{each_is_judged, none_is_both, scripts_are_one, refusals_are_one}
use Rattle.mm_laws.proofs.laws.bytes_are_judged.Goals as goal

pub returns-clause-each : goal.returns-clause-each
returns-clause-each c = each_is_judged

pub returns-clause-apart : goal.returns-clause-apart
returns-clause-apart c = none_is_both

pub returns-clause-script : goal.returns-clause-script
returns-clause-script c = scripts_are_one

pub returns-clause-refusal : goal.returns-clause-refusal
returns-clause-refusal c = refusals_are_one
