use Rattle.std.proofs.lemmas.Result.{IfOk-weaker}
use Rattle.mm_memdisk.specs.Left.{start_of, LeavesFile, LeavesAll}
use Rattle.mm_memdisk.specs.declared.crash.Left.{Left}
use Rattle.mm_memdisk.proofs.Leaving.{all_next}
use Rattle.mm_memdisk.proofs.crash.leave_unless_there.Goals as goal

pub returns-clause-left : goal.returns-clause-left
returns-clause-left c =
    let start = start_of c.args.disk.now in
    let calls = c.args.disk.now.calls.now in
    IfOk-weaker c.leave_file.result (λ (new : Left). LeavesFile start calls c.args.name.now c.args.left.files new.files) (λ (new : Left). LeavesAll start calls new.files)
    (λ new puts. all_next start calls c.args.name.now c.args.left.files new.files c.requires.left puts) c.leave_file.ensures.puts
