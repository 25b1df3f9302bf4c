use Rattle.std.proofs.Common.{refl, sym, subst}
use Rattle.mm_main.specs.Inserts.{ArePlayed}
use Rattle.mm_main.specs.Script.{IsPlayed, Refuses}
use Rattle.mm_main.proofs.RunSteps.{begun_none, if_read, plays_end, refusal_ends, played_asks, unasked_same}
use Rattle.mm_main.proofs.PlayedSteps.{played_actions}
use Rattle.mm_main.proofs.play.play_script.Goals as goal

pub returns-in-Err-NoMemory-clause-ends : goal.returns-in-Err-NoMemory-clause-ends
returns-in-Err-NoMemory-clause-ends g c = begun_none _ _ refl

pub returns-in-Ok-read_script-clause-ends : goal.returns-in-Ok-read_script-clause-ends
returns-in-Ok-read_script-clause-ends g c =
    plays_end c.in-Ok-read_script.script _ _ _ _ (if_read (IsPlayed c.in-Ok-read_script.script) _ _ _ _ c.in-Ok.ensures.read c.deref.ensures.value c.in-Ok-read_script.ensures.script) (rw c.actions.ensures at c.play.ensures.ends)

pub returns-in-Err-Line-clause-ends : goal.returns-in-Err-Line-clause-ends
returns-in-Err-Line-clause-ends g c =
    refusal_ends c.in-Err-Line.number c.in-Err-Line.what _ _ _ _ (if_read (Refuses c.in-Err-Line.number c.in-Err-Line.what) _ _ _ _ c.in-Ok.ensures.read c.deref.ensures.value (rw c.in-Err-Line.field-0-is at c.in-Err-Line.ensures.refused)) refl c.refused.ensures

pub returns-clause-ends : goal.returns-clause-ends
returns-clause-ends g c = begun_none _ _ refl

pub play-requires : goal.play-requires
play-requires g c = subst ArePlayed (sym c.actions.ensures) (played_actions c.in-Ok-read_script.script _ c.in-Ok-read_script.ensures.script)

pub returns-in-Ok-read_script-clause-unasked : goal.returns-in-Ok-read_script-clause-unasked
returns-in-Ok-read_script-clause-unasked g c = played_asks _ _ _ c.play.result _ _ c.play.ensures.ends

pub returns-in-Err-Line-clause-unasked : goal.returns-in-Err-Line-clause-unasked
returns-in-Err-Line-clause-unasked g c = unasked_same c.refused.result _ _ refl
