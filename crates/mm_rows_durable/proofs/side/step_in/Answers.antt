use Rattle.std.proofs.Common.{arith}
use Rattle.mm_rows_durable.proofs.Seats.{telling, stepped}
use Rattle.mm_rows_durable.proofs.side.step_in.Goals as goal

pub step-requires-clause-room : goal.step-requires-clause-room
step-requires-clause-room c = (1000, (c.requires.pass.room, omega (arith, c.requires.pass.few, c.requires.line)))

pub returns-clause-pass : goal.returns-clause-pass
returns-clause-pass c =
    (stepped telling c.args.held.now c.step.new.self c.args.line c.args.command.now c.args.pass.now c.step.new.pass c.step.result c.requires.pass c.step.ensures.entered c.step.ensures.marked c.step.ensures.err c.step.ensures.pass.0
    c.step.ensures.pass.1).1

pub returns-clause-stays : goal.returns-clause-stays
returns-clause-stays c =
    (stepped telling c.args.held.now c.step.new.self c.args.line c.args.command.now c.args.pass.now c.step.new.pass c.step.result c.requires.pass c.step.ensures.entered c.step.ensures.marked c.step.ensures.err c.step.ensures.pass.0
    c.step.ensures.pass.1).0
