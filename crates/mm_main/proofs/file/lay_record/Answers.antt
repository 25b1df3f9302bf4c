use Rattle.std.proofs.Common.{negsuc, ◌+◌, ◌∙◌, refl, rules, arith, ap}
use Rattle.std.specs.Int.{w32}
use Rattle.std.proofs.lemmas.Int.{to_z_pos, to_z-of_z}
use Rattle.mm_base.specs.Bytes.{part, overwritten}
use Rattle.mm_base.specs.Tables.{HasAll}
use Rattle.mm_base.proofs.Parts.{part_before}
use Rattle.mm_frames.specs.RecHeader.{rec_header_bytes, rec_header_table}
use Rattle.mm_main.specs.DataFile.{linked}
use Rattle.mm_main.specs.Drafted.{drafted}
use Rattle.mm_main.proofs.FrameSteps.{has_put, header_stays, payload_stands, before_payload}
use Rattle.mm_main.proofs.file.lay_record.Goals as goal

pub returns-clause-written : goal.returns-clause-written
unfolding rec_header_bytes
returns-clause-written c =
    let mid = drafted c.lay.new.draft in
    let spelled = rw (to_z_pos w32 c.args.len (omega arith)) at c.rec_header_frame.ensures.spelled in
    let has = has_put 16 c.args.at _ (drafted c.args.draft.now) mid refl (search rules) (omega arith) (c.lay.ensures.written ∙ ap (λ bytes. overwritten c.args.at bytes (drafted c.args.draft.now)) spelled) in
    let header : HasAll (part c.args.at 16 mid) (rec_header_table (linked c.args.len c.args.prev (negsuc 0))) = (has.0, (has.1.0, (has.1.1.0, (has.1.1.1.0 ∙ to_z-of_z w32 c.args.prev (search rules), tt)))) in
    record {
      header = header_stays 16 c.args.at (rec_header_table (linked c.args.len c.args.prev (negsuc 0))) c.args.payload.now mid _ header (omega (arith, c.lay.ensures.keeps.size)) c.lay-2.ensures.written;
      holds = payload_stands (c.args.at + 16) c.args.payload.now mid _ (omega (arith, c.lay.ensures.keeps.size)) c.lay-2.ensures.written;
    }

pub returns-clause-before : goal.returns-clause-before
returns-clause-before c = λ q m before.
    before_payload (c.args.at + 16) q m c.args.payload.now (drafted c.lay.new.draft) _ (omega (arith, before)) (omega (arith, c.lay.ensures.keeps.size)) c.lay-2.ensures.written
    ∙ ap (part q m) c.lay.ensures.written ∙ part_before q m c.args.at c.rec_header_frame.result (drafted c.args.draft.now) before (omega arith)
