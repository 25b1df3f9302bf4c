use Rattle.mm_main.proofs.TopSteps.{plays_said, plays_unsaid, unasked_by, unsaid_asks, adds_by}
use Rattle.mm_main.proofs.play.play_main.Goals as goal

pub returns-in-Ok-clause-plays : goal.returns-in-Ok-clause-plays
returns-in-Ok-clause-plays g c =
    let said = rw (c.as_bytes.ensures.value, c.text.ensures) at c.in-Ok.ensures.all in
    rw c.status.ensures (plays_said _ _ _ _ _ c.play_script-end.result c.play_script-end.ensures.ends said)

pub returns-clause-plays : goal.returns-clause-plays
returns-clause-plays g c = plays_unsaid _ _ _ _ _ c.play_script-end.result c.play_script-end.ensures.ends

pub returns-in-Ok-clause-unasked : goal.returns-in-Ok-clause-unasked
returns-in-Ok-clause-unasked g c = rw c.status.ensures (unasked_by c.play_script-end.result _ _ c.play_script-end.ensures.unasked)

pub returns-clause-unasked : goal.returns-clause-unasked
returns-clause-unasked g c = unsaid_asks _ _

pub returns-in-Ok-clause-adds : goal.returns-in-Ok-clause-adds
returns-in-Ok-clause-adds g c = adds_by _ _ _ c.print.ensures.some

pub returns-clause-adds : goal.returns-clause-adds
returns-clause-adds g c = adds_by _ _ _ c.print.ensures.some
