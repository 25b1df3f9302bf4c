use Rattle.mm_script.proofs.Worked.{whole_run_text, stopped_run_text}
use Rattle.mm_script.proofs.laws.worked_examples.Goals as goal

pub returns-clause-whole : goal.returns-clause-whole
returns-clause-whole c = whole_run_text

pub returns-clause-stopped : goal.returns-clause-stopped
returns-clause-stopped c = stopped_run_text
