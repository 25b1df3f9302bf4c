use Rattle.std.proofs.Common.{sym, subst}
use Rattle.mm_memdisk.specs.Calls.{change_of}
use Rattle.mm_memdisk.specs.Traced.{StepsBy}
use Rattle.mm_memdisk.specs.declared.call.Change.{Change}
use Rattle.mm_memdisk.proofs.traced.after_call.Goals as goal

pub returns-in-Create : goal.returns-in-Create
returns-in-Create c = subst (λ (k : Change). StepsBy (change_of k) c.args.begun.now.is_done c.args.old c.create.result) (sym c.in-Create.is) c.create.ensures

pub returns-in-Remove : goal.returns-in-Remove
returns-in-Remove c = subst (λ (k : Change). StepsBy (change_of k) c.args.begun.now.is_done c.args.old c.remove.result) (sym c.in-Remove.is) c.remove.ensures
