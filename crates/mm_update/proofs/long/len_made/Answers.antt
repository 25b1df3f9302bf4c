use Rattle.std.proofs.Common.{◌≡◌, drop, ◌∙◌, arith}
use Rattle.mm_bson.specs.Path.{names}
use Rattle.mm_update.specs.Meeting.{steps_len}
use Rattle.mm_update.specs.Edited.{value_by}
use Rattle.mm_update.proofs.Sizes.{absent_len}
use Rattle.mm_update.proofs.long.len_made.Goals as goal

pub returns-in_ok-exchanged-in-Ok : goal.returns-in_ok-exchanged-in-Ok
returns-in_ok-exchanged-in-Ok c = λ es met counted.
    let path = c.args.step.now.path in
    let made = c.in-Ok.ensures in
    let same : c.as_str.result.now ≡ path = c.as_str.ensures ∙ c.path.ensures.path in
    let steps : c.in-Some.made ≡ steps_len (drop c.args.kept (names path)) = rw same at c.in-Some.ensures in
    let g = absent_len path path (value_by c.args.step.now.operator path c.args.step.now.operand) es c.args.kept made.0 met made.1 in
    (g.0, g.1, omega (arith, g.2, made.2, counted, steps, c.in_ok-more-in-Ok.ensures, c.in_ok-exchanged-in-Ok.ensures))
