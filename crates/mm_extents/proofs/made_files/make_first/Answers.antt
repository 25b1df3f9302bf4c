use Rattle.std.proofs.Common.{◌∙◌, ◌+◌, length, ap, arith}
use Rattle.std.specs.Prelude.{sum_by}
use Rattle.std.proofs.lemmas.Result.{on_ok_weaker}
use Rattle.mm_ranges.specs.Places.{weight_of}
use Rattle.mm_views.specs.State.{Drafting}
use Rattle.mm_extents.proofs.FreeWalks.{both_ok}
use Rattle.mm_extents.proofs.MadeFiles.{length-with_one, mid_is, room_there, zeros_made, not_there}
use Rattle.mm_extents.proofs.FirstFile.{made_files, made_unused, made_ns}
use Rattle.mm_extents.proofs.made_files.make_first.Goals as goal

pub add_file-requires-clause-absent : goal.add_file-requires-clause-absent
add_file-requires-clause-absent c = not_there c.args.draft.now.image 0 (c.requires.none 0 (omega arith))

pub put_fields-requires-clause-there : goal.put_fields-requires-clause-there
put_fields-requires-clause-there c = room_there c.args.draft.now.image c.add_file.«new».self.image 0 (mid_is c.args.draft.now c.add_file.«new».self 0 c.file_len.result _ c.in_ok-add_file.ensures.ok c.file_len.ensures.is)

pub put_fields-requires-clause-zeros : goal.put_fields-requires-clause-zeros
put_fields-requires-clause-zeros c = zeros_made c.args.draft.now.image c.add_file.«new».self.image 0 (mid_is c.args.draft.now c.add_file.«new».self 0 c.file_len.result _ c.in_ok-add_file.ensures.ok c.file_len.ensures.is)

pub returns-clause-files : goal.returns-clause-files
returns-clause-files c =
    let mid = mid_is c.args.draft.now c.add_file.«new».self 0 c.file_len.result _ c.in_ok-add_file.ensures.ok c.file_len.ensures.is in
    on_ok_weaker c.put_fields.result (λ x. made_files c.args.draft.now.image c.add_file.«new».self c.put_fields.«new».draft mid c.requires x.0 x.1) (both_ok _ _ c.put_fields.result c.put_fields.ensures.ok c.put_fields.ensures.header)

pub returns-clause-empty : goal.returns-clause-empty
returns-clause-empty c =
    let mid = mid_is c.args.draft.now c.add_file.«new».self 0 c.file_len.result _ c.in_ok-add_file.ensures.ok c.file_len.ensures.is in
    on_ok_weaker c.put_fields.result (λ x. made_unused c.args.draft.now.image c.add_file.«new».self c.put_fields.«new».draft mid c.requires x.0 x.1) (both_ok _ _ c.put_fields.result c.put_fields.ensures.ok c.put_fields.ensures.header)

pub returns-clause-ns : goal.returns-clause-ns
returns-clause-ns c =
    let mid = mid_is c.args.draft.now c.add_file.«new».self 0 c.file_len.result _ c.in_ok-add_file.ensures.ok c.file_len.ensures.is in
    on_ok_weaker c.put_fields.result (λ x. made_ns c.args.draft.now.image c.add_file.«new».self c.put_fields.«new».draft mid c.requires x.0 x.1) (both_ok _ _ c.put_fields.result c.put_fields.ensures.ok c.put_fields.ensures.header)

pub returns-clause-weight : goal.returns-clause-weight
returns-clause-weight c =
    let w = c.put_fields.ensures.weight in
    let made = ap (λ (d : Drafting). length d.made) c.in_ok-add_file.ensures.ok ∙ length-with_one (record { file = 0; len = c.file_len.result }) c.args.draft.now.made in
    let same = ap (λ (d : Drafting). sum_by weight_of d.declared) c.in_ok-add_file.ensures.ok in
    omega (arith, w, made, same)
