use Rattle.std.proofs.Common.{◌∙◌, refl, rules, arith, ap}
use Rattle.std.specs.Int.{w32}
use Rattle.std.proofs.lemmas.Int.{to_z_pos}
use Rattle.mm_base.specs.Bytes.{part, overwritten}
use Rattle.mm_base.proofs.Parts.{part_before}
use Rattle.mm_frames.specs.DeletedHeader.{deleted_header_bytes}
use Rattle.mm_main.specs.Drafted.{drafted}
use Rattle.mm_main.proofs.FrameSteps.{has_put, rest_is_block}
use Rattle.mm_main.proofs.file.lay_rest.Goals as goal

pub returns-clause-rest : goal.returns-clause-rest
unfolding deleted_header_bytes
returns-clause-rest c =
    let spelled = rw c.no_place.ensures at c.deleted_header_frame.ensures.spelled in
    let has = has_put 16 c.args.at _ (drafted c.args.draft.now) (drafted c.lay.new.draft) refl (search rules) (omega arith) (c.lay.ensures.written ∙ ap (λ bytes. overwritten c.args.at bytes (drafted c.args.draft.now)) spelled) in
    rest_is_block _ c.args.at c.if-at-eq-FILE_LEN.false (has.0 ∙ to_z_pos w32 _ (omega arith), has.1)

pub returns-clause-before : goal.returns-clause-before
returns-clause-before c = λ q m before. ap (part q m) c.lay.ensures.written ∙ part_before q m c.args.at c.deleted_header_frame.result (drafted c.args.draft.now) before (omega arith)
