use Rattle.std.proofs.Common.{◌∙◌, ap}
use Rattle.mm_main.specs.Texts.{present_text}
use Rattle.mm_main.proofs.RunSteps.{begun_none}
use Rattle.mm_main.proofs.play.play.Goals as goal

pub returns-in-Ok-clause-ends : goal.returns-in-Ok-clause-ends
returns-in-Ok-clause-ends g c =
    let first = rw c.in-Ok-Some.field-0-is at c.in-Ok-Some.ensures.first in
    (c.in-Ok.ensures ∙ ap present_text c.deref.ensures, c.first_file.ensures.told, first)

pub returns-in-Err-clause-ends : goal.returns-in-Err-clause-ends
returns-in-Err-clause-ends g c = begun_none _ _ c.first_file.ensures.told

pub returns-in-Err-Fault-clause-ends : goal.returns-in-Err-Fault-clause-ends
returns-in-Err-Fault-clause-ends g c = begun_none _ _ c.first_file.ensures.told

pub returns-in-Err-NoMemory-clause-ends : goal.returns-in-Err-NoMemory-clause-ends
returns-in-Err-NoMemory-clause-ends g c = begun_none _ _ c.first_file.ensures.told
