use Rattle.std.proofs.Common.{refl, arith}
use Rattle.mm_durable.proofs.Steps.{on_err_holds}
use Rattle.mm_durable.proofs.Marks.{marks_floor, marks_nothing, marking_left, marked, marked_before}
use Rattle.mm_durable.proofs.log.Log.mark_lsn.Goals as goal

pub returns-in_err-write_mark-clause-left : goal.returns-in_err-write_mark-clause-left
returns-in_err-write_mark-clause-left g c =
    on_err_holds c.from_residual.result _ (marking_left c.args.self.now c.requires.sound _ _ c.write_mark.ensures.cut)

pub returns-in_ok-write_mark-clause-kept : goal.returns-in_ok-write_mark-clause-kept
returns-in_ok-write_mark-clause-kept g c = marked c.args.self.now c.requires.sound _ _ c.in_ok-write_mark.ensures.made

pub returns-else-self-clause-kept : goal.returns-else-self-clause-kept
returns-else-self-clause-kept g c = marked_before c.args.self.now c.requires.sound _

pub returns-in_err-write_mark-clause-still : goal.returns-in_err-write_mark-clause-still
returns-in_err-write_mark-clause-still g c = λ same. absurd (omega (arith, same, c.if-self.true))

pub returns-in_ok-write_mark-clause-still : goal.returns-in_ok-write_mark-clause-still
returns-in_ok-write_mark-clause-still g c = λ same. absurd (omega (arith, same, c.if-self.true))

pub returns-else-self-clause-still : goal.returns-else-self-clause-still
returns-else-self-clause-still g c = λ same. refl

pub returns-in_ok-write_mark-clause-made : goal.returns-in_ok-write_mark-clause-made
returns-in_ok-write_mark-clause-made g c = marks_floor c.args.self.now c.if-self.true _ _ c.in_ok-write_mark.ensures.made

pub returns-else-self-clause-made : goal.returns-else-self-clause-made
returns-else-self-clause-made g c = marks_nothing c.args.self.now c.if-self.false _
