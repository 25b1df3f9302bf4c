use Rattle.std.proofs.Common.{◌∙◌, ◌+◌, length, ap, arith}
use Rattle.std.specs.Prelude.{sum_by}
use Rattle.std.proofs.lemmas.Result.{on_ok_weaker}
use Rattle.mm_ranges.specs.Places.{weight_of}
use Rattle.mm_views.specs.State.{Drafting}
use Rattle.mm_extents.proofs.FreeWalks.{both_ok}
use Rattle.mm_extents.proofs.RoomFalls.{made_lowers}
use Rattle.mm_extents.proofs.MadeFiles.{length-with_one, mid_is, room_there, zeros_made, made_stands, made_last, made_unused, made_ns}
use Rattle.mm_extents.proofs.made_files.make_file.Goals as goal

pub put_fields-requires-clause-there : goal.put_fields-requires-clause-there
put_fields-requires-clause-there c = room_there c.args.draft.now.image c.add_file.«new».self.image (c.args.file + 1) (mid_is c.args.draft.now c.add_file.«new».self (c.args.file + 1) c.file_len.result _ c.in_ok-add_file.ensures.ok c.file_len.ensures.is)

pub put_fields-requires-clause-zeros : goal.put_fields-requires-clause-zeros
put_fields-requires-clause-zeros c = zeros_made c.args.draft.now.image c.add_file.«new».self.image (c.args.file + 1) (mid_is c.args.draft.now c.add_file.«new».self (c.args.file + 1) c.file_len.result _ c.in_ok-add_file.ensures.ok c.file_len.ensures.is)

pub returns-clause-stands : goal.returns-clause-stands
returns-clause-stands c =
    let mid = mid_is c.args.draft.now c.add_file.«new».self (c.args.file + 1) c.file_len.result _ c.in_ok-add_file.ensures.ok c.file_len.ensures.is in
    on_ok_weaker c.put_fields.result (λ x. made_stands c.args.draft.now.image c.args.file c.add_file.«new».self c.put_fields.«new».draft mid c.requires.last c.requires.file x.0 x.1) (both_ok _ _ c.put_fields.result c.put_fields.ensures.ok c.put_fields.ensures.header)

pub returns-clause-last : goal.returns-clause-last
returns-clause-last c =
    let mid = mid_is c.args.draft.now c.add_file.«new».self (c.args.file + 1) c.file_len.result _ c.in_ok-add_file.ensures.ok c.file_len.ensures.is in
    on_ok_weaker c.put_fields.result (λ x. made_last c.args.draft.now.image c.args.file c.add_file.«new».self c.put_fields.«new».draft mid c.requires.last c.requires.file x.0 x.1) (both_ok _ _ c.put_fields.result c.put_fields.ensures.ok c.put_fields.ensures.header)

pub returns-clause-unused : goal.returns-clause-unused
returns-clause-unused c =
    let mid = mid_is c.args.draft.now c.add_file.«new».self (c.args.file + 1) c.file_len.result _ c.in_ok-add_file.ensures.ok c.file_len.ensures.is in
    on_ok_weaker c.put_fields.result (λ x. made_unused c.args.draft.now.image c.args.file c.add_file.«new».self c.put_fields.«new».draft mid c.requires.last c.requires.file x.0 x.1) (both_ok _ _ c.put_fields.result c.put_fields.ensures.ok c.put_fields.ensures.header)

pub returns-clause-ns : goal.returns-clause-ns
returns-clause-ns c =
    let mid = mid_is c.args.draft.now c.add_file.«new».self (c.args.file + 1) c.file_len.result _ c.in_ok-add_file.ensures.ok c.file_len.ensures.is in
    on_ok_weaker c.put_fields.result (λ x. made_ns c.args.draft.now.image c.args.file c.add_file.«new».self c.put_fields.«new».draft mid c.requires.last c.requires.file x.0 x.1) (both_ok _ _ c.put_fields.result c.put_fields.ensures.ok c.put_fields.ensures.header)

pub returns-clause-weight : goal.returns-clause-weight
returns-clause-weight c =
    let w = c.put_fields.ensures.weight in
    let made = ap (λ (d : Drafting). length d.made) c.in_ok-add_file.ensures.ok ∙ length-with_one (record { file = c.args.file + 1; len = c.file_len.result }) c.args.draft.now.made in
    let same = ap (λ (d : Drafting). sum_by weight_of d.declared) c.in_ok-add_file.ensures.ok in
    omega (arith, w, made, same)

pub returns-clause-room : goal.returns-clause-room
returns-clause-room c =
    let mid = mid_is c.args.draft.now c.add_file.«new».self (c.args.file + 1) c.file_len.result _ c.in_ok-add_file.ensures.ok c.file_len.ensures.is in
    on_ok_weaker c.put_fields.result (λ x u known. made_lowers c.args.draft.now.image c.put_fields.«new».draft.image c.args.file u c.requires.last known
    (made_last c.args.draft.now.image c.args.file c.add_file.«new».self c.put_fields.«new».draft mid c.requires.last c.requires.file x.0 x.1)
    (made_unused c.args.draft.now.image c.args.file c.add_file.«new».self c.put_fields.«new».draft mid c.requires.last c.requires.file x.0 x.1)) (both_ok _ _ c.put_fields.result c.put_fields.ensures.ok c.put_fields.ensures.header)
