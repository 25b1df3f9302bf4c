use Rattle.mm_update.specs.declared.fault.ChangeFault.TheVariants.{BadChange}
use Rattle.mm_bson.specs.Path.{names}
use Rattle.mm_update.specs.Edited.{put, value_by}
use Rattle.mm_update.specs.Form.{IsFault}
use Rattle.mm_update.proofs.Onward.{fault_fails}
use Rattle.mm_update.proofs.Sizes.{blocked_put}
use Rattle.mm_update.proofs.long.len_with.Goals as goal

pub returns-in-Blocked : goal.returns-in-Blocked
returns-in-Blocked c = λ es met counted.
    let path = c.args.step.now.path in
    let value = value_by c.args.step.now.operator path c.args.step.now.operand in
    let fault : IsFault c.bad_change.result (BadChange path) = rw c.path.ensures.path at c.bad_change.ensures in
    fault_fails c.bad_change.result (BadChange path) (put path value (names path) es) fault (blocked_put path path value es (rw c.in-Blocked.is at met))
