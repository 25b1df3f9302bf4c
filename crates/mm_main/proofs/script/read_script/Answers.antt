use Rattle.mm_main.proofs.PlayedSteps.{refused_here}
use Rattle.mm_main.proofs.script.read_script.Goals as goal

pub returns-in-Some-clause-refused : goal.returns-in-Some-clause-refused
returns-in-Some-clause-refused c =
    let read = rw c.database.ensures at c.in-Ok.ensures.read in
    let only = rw c.database.ensures at c.in-Ok.ensures.only in
    let first = rw c.actions.ensures at c.in-Some.ensures.some in
    refused_here c.args.bytes.now _ c.in-Some.number c.in-Some.what read only first
