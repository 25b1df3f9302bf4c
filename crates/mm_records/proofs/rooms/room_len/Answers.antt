use Rattle.std.proofs.Common.{◌+◌, length, ◌∙◌, ap, arith, rules}
use Rattle.std.specs.Prelude.{FitsSigned}
use Rattle.std.specs.Int.{w32}
use Rattle.std.proofs.lemmas.Int.{to_z-of_z}
use Rattle.mm_frames.specs.declared.rec_header.RecHeader.{RecHeader}
use Rattle.mm_records.proofs.FreeCall.{head_is, own_inside, own_len}
use Rattle.mm_records.proofs.FreeSteps.{nonneg, own_len_of}
use Rattle.mm_records.proofs.RoomLaws.{short_room}
use Rattle.mm_records.proofs.rooms.room_len.Goals as goal

pub read_record-requires : goal.read_record-requires
read_record-requires c = let i = own_inside c.args.draft.now.image c.requires.0 c.requires.1.0 c.args.node (c.args.at.file, c.args.at.ofs) c.requires.1.1 in omega (arith, i)

pub natural-requires : goal.natural-requires
natural-requires c =
    let own = c.requires.1.1 in
    let f : FitsSigned w32 c.read_record.result.length_with_headers = search rules in
    let head = head_is c.args.draft.now.image c.requires.0 c.requires.1.0 c.args.node (c.args.at.file, c.args.at.ofs) own c.read_record.result c.read_record.ensures in
    nonneg _ (16 + length own.room) (to_z-of_z w32 c.read_record.result.length_with_headers f ∙ ap (λ (h : RecHeader). h.length_with_headers) head ∙ own_len c.args.draft.now.image c.requires.0 c.requires.1.0 c.args.node (c.args.at.file, c.args.at.ofs) own)

pub overflow_sub-result : goal.overflow_sub-result
overflow_sub-result c =
    let f : FitsSigned w32 c.read_record.result.length_with_headers = search rules in
    let long = own_len_of c.args.draft.now.image c.requires.0 c.requires.1.0 c.args.node (c.args.at.file, c.args.at.ofs) c.requires.1.1 c.read_record.result c.natural.result c.read_record.ensures f c.natural.ensures in
    omega (arith, long)

pub returns-clause-is : goal.returns-clause-is
returns-clause-is c = λ free s own.
    let f : FitsSigned w32 c.read_record.result.length_with_headers = search rules in
    let long = own_len_of c.args.draft.now.image free s c.args.node (c.args.at.file, c.args.at.ofs) own c.read_record.result c.natural.result c.read_record.ensures f c.natural.ensures in
    omega (arith, long)

pub returns-clause-inside : goal.returns-clause-inside
returns-clause-inside c =
    let f : FitsSigned w32 c.read_record.result.length_with_headers = search rules in
    let long = own_len_of c.args.draft.now.image c.requires.0 c.requires.1.0 c.args.node (c.args.at.file, c.args.at.ofs) c.requires.1.1 c.read_record.result c.natural.result c.read_record.ensures f c.natural.ensures in
    let i = own_inside c.args.draft.now.image c.requires.0 c.requires.1.0 c.args.node (c.args.at.file, c.args.at.ofs) c.requires.1.1 in
    omega (arith, long, i)

pub returns-clause-short : goal.returns-clause-short
returns-clause-short c =
    let f : FitsSigned w32 c.read_record.result.length_with_headers = search rules in
    let long = own_len_of c.args.draft.now.image c.requires.0 c.requires.1.0 c.args.node (c.args.at.file, c.args.at.ofs) c.requires.1.1 c.read_record.result c.natural.result c.read_record.ensures f c.natural.ensures in
    let i = short_room c.args.draft.now.image c.requires.0 c.requires.1.0 c.args.node (c.args.at.file, c.args.at.ofs) c.requires.1.1 in
    omega (arith, long, i)
