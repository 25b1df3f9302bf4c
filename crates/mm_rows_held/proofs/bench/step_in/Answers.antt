use Rattle.std.proofs.Common.{arith}
use Rattle.mm_rows_held.proofs.Benches.{telling, stepped}
use Rattle.mm_rows_held.proofs.bench.step_in.Goals as goal

pub step-done-requires-clause-room : goal.step-done-requires-clause-room
step-done-requires-clause-room c = (1000, (c.requires.pass.room, omega (arith, c.requires.pass.few, c.requires.line)))

pub returns-clause-pass : goal.returns-clause-pass
returns-clause-pass c =
    (stepped telling c.args.held.now c.step-done.new.self c.args.line c.args.command.now c.args.pass.now c.step-done.new.pass c.step-done.result c.requires.pass c.step-done.ensures.entered c.step-done.ensures.marked c.step-done.ensures.err c.step-done.ensures.pass.0
    c.step-done.ensures.pass.1).1

pub returns-clause-stays : goal.returns-clause-stays
returns-clause-stays c =
    (stepped telling c.args.held.now c.step-done.new.self c.args.line c.args.command.now c.args.pass.now c.step-done.new.pass c.step-done.result c.requires.pass c.step-done.ensures.entered c.step-done.ensures.marked c.step-done.ensures.err c.step-done.ensures.pass.0
    c.step-done.ensures.pass.1).0
