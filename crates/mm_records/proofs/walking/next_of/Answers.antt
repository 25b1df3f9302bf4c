use Rattle.std.proofs.Common.{◌≡◌, ℕ, ◌+◌, ◌≤◌, length, Some, sym, ◌∙◌, ap, subst, arith, rules}
use Rattle.std.specs.Prelude.{FitsSigned}
use Rattle.std.specs.Int.{w32}
use Rattle.std.proofs.lemmas.Int.{to_z-of_z}
use Rattle.mm_base.specs.declared.place.DiskLoc.{DiskLoc}
use Rattle.mm_ranges.specs.Overlay.{bytes_at}
use Rattle.mm_frames.specs.Texts.{text_in}
use Rattle.mm_frames.specs.declared.rec_header.RecHeader.{RecHeader}
use Rattle.mm_records.proofs.FreeCall.{head_is, own_inside, own_file}
use Rattle.mm_records.proofs.FreeSteps.{nonneg, same_number}
use Rattle.mm_records.proofs.NextLaws.{middle, extent_inside, next_there, next_low, rest_behind, next_beyond, header_read}
use Rattle.mm_records.proofs.walking.next_of.Goals as goal

pub read_record-head-requires : goal.read_record-head-requires
read_record-head-requires c = let i = own_inside c.args.draft.now.image c.requires.0 c.requires.1.0 c.args.node (c.args.at.file, c.args.at.ofs) c.requires.1.1 in omega (arith, i)

pub place-requires-clause-file : goal.place-requires-clause-file
place-requires-clause-file c = own_file c.args.draft.now.image c.requires.0 c.requires.1.0 c.args.node (c.args.at.file, c.args.at.ofs) c.requires.1.1

pub place-requires-clause-ofs : goal.place-requires-clause-ofs
place-requires-clause-ofs c =
    let f : FitsSigned w32 c.read_record-head.result.next_ofs = search rules in
    let head = head_is c.args.draft.now.image c.requires.0 c.requires.1.0 c.args.node (c.args.at.file, c.args.at.ofs) c.requires.1.1 c.read_record-head.result c.read_record-head.ensures in
    next_low c.args.draft.now.image c.requires.0 c.requires.1.0 c.args.node (c.args.at.file, c.args.at.ofs) c.requires.1.1 c.in-Some.ofs (ap (λ (h : RecHeader). h.next_ofs) (sym head) ∙ sym (to_z-of_z w32 c.read_record-head.result.next_ofs f) ∙ c.in-Some.ensures.some)

pub natural-requires : goal.natural-requires
natural-requires c =
    let own = c.requires.1.1 in
    let f : FitsSigned w32 c.read_record-head.result.extent_ofs = search rules in
    let head = head_is c.args.draft.now.image c.requires.0 c.requires.1.0 c.args.node (c.args.at.file, c.args.at.ofs) c.requires.1.1 c.read_record-head.result c.read_record-head.ensures in
    nonneg _ own.a (to_z-of_z w32 c.read_record-head.result.extent_ofs f ∙ ap (λ (h : RecHeader). h.extent_ofs) head ∙ own.ext)

pub read_extent-requires : goal.read_extent-requires
read_extent-requires c =
    let own = c.requires.1.1 in
    let f : FitsSigned w32 c.read_record-head.result.extent_ofs = search rules in
    let head = head_is c.args.draft.now.image c.requires.0 c.requires.1.0 c.args.node (c.args.at.file, c.args.at.ofs) c.requires.1.1 c.read_record-head.result c.read_record-head.ensures in
    let same : own.a ≡ c.natural.result = same_number own.a c.natural.result (sym own.ext ∙ ap (λ (h : RecHeader). h.extent_ofs) (sym head) ∙ sym (to_z-of_z w32 c.read_record-head.result.extent_ofs f) ∙ c.natural.ensures) in
    subst (λ (a : ℕ). a + 176 ≤ length (bytes_at c.args.draft.now.image c.args.at.file)) same (extent_inside c.args.draft.now.image c.requires.0 c.requires.1.0 c.args.node (c.args.at.file, c.args.at.ofs) c.requires.1.1)

pub first_from-requires : goal.first_from-requires
first_from-requires c =
    let own = c.requires.1.1 in
    let f : FitsSigned w32 c.read_record-head.result.extent_ofs = search rules in
    let head = head_is c.args.draft.now.image c.requires.0 c.requires.1.0 c.args.node (c.args.at.file, c.args.at.ofs) c.requires.1.1 c.read_record-head.result c.read_record-head.ensures in
    let same : own.a ≡ c.natural.result = same_number own.a c.natural.result (sym own.ext ∙ ap (λ (h : RecHeader). h.extent_ofs) (sym head) ∙ sym (to_z-of_z w32 c.read_record-head.result.extent_ofs f) ∙ c.natural.ensures) in
    let x = header_read c.args.draft.now.image c.requires.0 c.requires.1.0 c.args.node (c.args.at.file, c.args.at.ofs) c.requires.1.1 c.natural.result c.read_extent.result same c.read_extent.ensures in
    (c.requires.0, (c.requires.1.0, (text_in own.hh.namespace, ((middle c.args.draft.now.image c.requires.0 c.requires.1.0 c.args.node (c.args.at.file, c.args.at.ofs) c.requires.1.1).after, rest_behind c.args.draft.now.image c.requires.0 c.requires.1.0 c.args.node (c.args.at.file, c.args.at.ofs) c.requires.1.1 c.read_extent.result.xnext x))))

pub returns-in-Some : goal.returns-in-Some
returns-in-Some c = λ free s own.
    let f : FitsSigned w32 c.read_record-head.result.next_ofs = search rules in
    let head = head_is c.args.draft.now.image free s c.args.node (c.args.at.file, c.args.at.ofs) own c.read_record-head.result c.read_record-head.ensures in
    ap (λ (x : DiskLoc). Some x) c.place.ensures
    ∙ next_there c.args.draft.now.image free s c.args.node (c.args.at.file, c.args.at.ofs) own c.in-Some.ofs (ap (λ (h : RecHeader). h.next_ofs) (sym head) ∙ sym (to_z-of_z w32 c.read_record-head.result.next_ofs f) ∙ c.in-Some.ensures.some)

pub returns-in-None : goal.returns-in-None
returns-in-None c = λ free s own.
    let f : FitsSigned w32 c.read_record-head.result.extent_ofs = search rules in
    let g : FitsSigned w32 c.read_record-head.result.next_ofs = search rules in
    let head = head_is c.args.draft.now.image free s c.args.node (c.args.at.file, c.args.at.ofs) own c.read_record-head.result c.read_record-head.ensures in
    let same : own.a ≡ c.natural.result = same_number own.a c.natural.result (sym own.ext ∙ ap (λ (h : RecHeader). h.extent_ofs) (sym head) ∙ sym (to_z-of_z w32 c.read_record-head.result.extent_ofs f) ∙ c.natural.ensures) in
    let x = header_read c.args.draft.now.image free s c.args.node (c.args.at.file, c.args.at.ofs) own c.natural.result c.read_extent.result same c.read_extent.ensures in
    next_beyond c.args.draft.now.image free s c.args.node (c.args.at.file, c.args.at.ofs) own c.in-None.ensures.none.0 c.first_from.result
    (ap (λ (h : RecHeader). h.next_ofs) (sym head) ∙ sym (to_z-of_z w32 c.read_record-head.result.next_ofs g) ∙ c.in-None.ensures.none.1)
    (c.first_from.ensures free s (text_in own.hh.namespace) (middle c.args.draft.now.image free s c.args.node (c.args.at.file, c.args.at.ofs) own).after (rest_behind c.args.draft.now.image free s c.args.node (c.args.at.file, c.args.at.ofs) own c.read_extent.result.xnext x))
