use Rattle.std.proofs.Common.{◌≡◌, ◌∙◌, arith}
use Rattle.mm_bson.specs.Path.{names}
use Rattle.mm_bson.specs.View.{tree}
use Rattle.mm_update.specs.Meeting.{present, meet}
use Rattle.mm_update.proofs.Sizes.{absent_removed, blocked_removed, present_removed}
use Rattle.mm_update.proofs.long.len_without.Goals as goal

pub returns-in-Present : goal.returns-in-Present
returns-in-Present c = λ path es met counted.
    let name = c.in-Present.name.now in
    let t = tree c.in-Present.value.now in
    let here : meet (names path) es ≡ present name t = rw c.in-Present.is at met in
    let g = present_removed path es name t here in
    omega (arith, g, counted, c.spelled_len.ensures, c.saturating_sub.ensures, c.saturating_sub-in-Present.ensures, c.saturating_sub-in-Present-2.ensures)

pub returns-in-Absent : goal.returns-in-Absent
returns-in-Absent c = λ path es met counted. absent_removed path es _ (rw c.in-Absent.is at met) ∙ counted

pub returns-in-Blocked : goal.returns-in-Blocked
returns-in-Blocked c = λ path es met counted. blocked_removed path es (rw c.in-Blocked.is at met) ∙ counted
