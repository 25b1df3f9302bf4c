use Rattle.std.proofs.Common.{length, ap, sym}
use Rattle.mm_update.specs.Edited.{all_edited}
use Rattle.mm_update.specs.Met.{seen}
use Rattle.mm_update.proofs.Measures.{by_first, by_free_at, by_fails_at, by_on_at, by_last}
use Rattle.mm_update.proofs.long.len_of_all.Goals as goal

pub loop-step-init : goal.loop-step-init
loop-step-init c =
    let old = c.args.doc.now in
    rw c.new-makers.ensures (by_first c.args.steps.now old (length c.bytes-len.result.now) c.requires (ap length (sym c.bytes-len.ensures.spelled)))

pub add_maker-requires : goal.add_maker-requires
add_maker-requires c =
    let steps = c.args.steps.now in
    let old = c.args.doc.now in
    let l = c.loop-step in
    by_free_at l.makers steps l.step-index c.step-item.result c.loop-step-test.true c.step-item.is old (all_edited steps old) l.len l.invariant

pub loop-step-preserved : goal.loop-step-preserved
loop-step-preserved c =
    let steps = c.args.steps.now in
    let old = c.args.doc.now in
    let l = c.loop-step in
    by_on_at l.makers steps l.step-index c.step-item.result c.loop-step-test.true c.step-item.is old (all_edited steps old) l.len l.invariant
    (seen c.meeting_after-meeting.result) (rw c.path.ensures.path at c.meeting_after-meeting.ensures) c.add_maker.new.makers c.in-Ok.next c.in-Ok.ensures c.in_ok-add_maker.ensures.reach c.in_ok-add_maker.ensures.free

pub returns-in-Err : goal.returns-in-Err
returns-in-Err c =
    let steps = c.args.steps.now in
    let old = c.args.doc.now in
    let l = c.loop-step in
    by_fails_at l.makers steps l.step-index c.step-item.result c.loop-step-test.true c.step-item.is old (all_edited steps old) l.len l.invariant
    (seen c.meeting_after-meeting.result) (rw c.path.ensures.path at c.meeting_after-meeting.ensures) c.in-Err.fault c.in-Err.ensures

pub returns : goal.returns
returns c =
    let steps = c.args.steps.now in
    let old = c.args.doc.now in
    let l = c.loop-step in
    by_last l.makers steps l.step-index old (all_edited steps old) l.len l.invariant c.loop-step-test.false
