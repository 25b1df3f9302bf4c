use Rattle.std.proofs.Common.{arith}
use Rattle.mm_bson.specs.View.{tree}
use Rattle.mm_update.specs.Edited.{value_by}
use Rattle.mm_update.proofs.Sizes.{present_len, present_fails}
use Rattle.mm_update.proofs.long.len_replaced.Goals as goal

pub returns-in_ok-exchanged-in-Ok : goal.returns-in_ok-exchanged-in-Ok
returns-in_ok-exchanged-in-Ok c = λ name es met counted.
    let path = c.args.step.now.path in
    let made = c.in-Ok.ensures in
    let g = present_len path path (value_by c.args.step.now.operator path c.args.step.now.operand) es name (tree c.args.value.now) made.0 met made.1 in
    (g.0, g.1, omega (arith, g.2, made.2, counted, c.spelled_len.ensures, c.in_ok-exchanged-in-Ok.ensures))

pub returns-in-Err : goal.returns-in-Err
returns-in-Err c = λ name es met counted.
    let path = c.args.step.now.path in
    present_fails path path (value_by c.args.step.now.operator path c.args.step.now.operand) es name (tree c.args.value.now) c.in-Err.fault met c.in-Err.ensures
