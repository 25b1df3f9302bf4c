use Rattle.std.proofs.Common.{◌≡◌, ◌∙◌, refl, rules, arith, ap, length}
use Rattle.std.specs.Int.{w32}
use Rattle.std.proofs.lemmas.Int.{to_z_pos, to_z-of_z}
use Rattle.std.proofs.lemmas.Result.{on_ok_weaker}
use Rattle.mm_base.specs.Bytes.{part}
use Rattle.mm_frames.specs.RecHeader.{rec_header_of, rec_header_bytes}
use Rattle.mm_main.specs.Drafted.{drafted}
use Rattle.mm_main.proofs.DraftedSteps.{frame_put, put_before, put_behind, read_front, leads_on}
use Rattle.mm_main.proofs.file.put_next.Goals as goal

pub returns-clause-leads : goal.returns-clause-leads
unfolding rec_header_bytes
returns-clause-leads c =
    let spelled = rw (to_z_pos w32 c.args.next (omega arith)) at c.rec_header_frame.ensures.spelled in
    let has = frame_put _ _ c.put.result 16 c.args.last _ _ _ _ refl (search rules) (omega arith) spelled c.put.ensures.ok in
    let old = drafted c.args.draft.now in
    let read = c.read_rec_header.ensures ∙ ap (λ out. rec_header_of (part 0 16 out)) c.read.ensures ∙ ap rec_header_of (read_front c.args.last 16 old) in
    on_ok_weaker c.put.result (λ h. leads_on c.args.last c.args.next c.read_rec_header.result _ old _ read refl
    (h.0 ∙ to_z-of_z w32 _ (search rules), (h.1.0 ∙ to_z-of_z w32 _ (search rules), (h.1.1.0, (h.1.1.1.0 ∙ to_z-of_z w32 _ (search rules), tt))))) has

pub returns-clause-before : goal.returns-clause-before
returns-clause-before c = put_before _ _ c.put.result c.args.last _ _ _ (omega arith) c.put.ensures.ok

pub returns-clause-behind : goal.returns-clause-behind
returns-clause-behind c =
    let long : length c.rec_header_frame.result ≡ 16 = search rules in
    put_behind _ _ c.put.result c.args.last _ _ _ _ (omega arith) (omega (arith, long)) c.put.ensures.ok
