use Rattle.std.proofs.Common.{◌∙◌, ℤ, Some, rules, refl, ap, sym, arith}
use Rattle.std.specs.Prelude.{FitsSigned}
use Rattle.std.specs.Int.{w32}
use Rattle.std.proofs.lemmas.Int.{to_z-of_z}
use Rattle.mm_extents.proofs.FreeWalks.{nonneg, same_number}
use Rattle.mm_extents.proofs.MadeFiles.{read_header, long_here, header_ofs, header_unused_is, header_from, header_to}
use Rattle.mm_extents.proofs.made_files.unused_ofs.Goals as goal

pub natural-requires : goal.natural-requires
natural-requires c =
    let f : FitsSigned w32 c.read_file_header.result.unused.ofs = search rules in
    let is = read_header c.args.draft.now.image c.args.file _ c.read.«new».out c.read_file_header.result refl (long_here c.args.draft.now.image c.args.file c.requires.files c.requires.file c.requires.there) c.read.ensures c.read_file_header.ensures in
    nonneg _ _ (to_z-of_z w32 c.read_file_header.result.unused.ofs f ∙ header_ofs c.args.draft.now.image c.args.file c.requires.files c.requires.file c.requires.there c.read_file_header.result is)

pub returns-clause-is : goal.returns-clause-is
returns-clause-is c =
    let f : FitsSigned w32 c.read_file_header.result.unused.ofs = search rules in
    let is = read_header c.args.draft.now.image c.args.file _ c.read.«new».out c.read_file_header.result refl (long_here c.args.draft.now.image c.args.file c.requires.files c.requires.file c.requires.there) c.read.ensures c.read_file_header.ensures in
    let z = sym (to_z-of_z w32 c.read_file_header.result.unused.ofs f ∙ header_ofs c.args.draft.now.image c.args.file c.requires.files c.requires.file c.requires.there c.read_file_header.result is) ∙ c.natural.ensures in
    header_unused_is c.args.draft.now.image c.args.file c.requires.files c.requires.file c.requires.there ∙ ap (λ (x : ℤ). Some x) z

pub returns-clause-from : goal.returns-clause-from
returns-clause-from c =
    let f : FitsSigned w32 c.read_file_header.result.unused.ofs = search rules in
    let is = read_header c.args.draft.now.image c.args.file _ c.read.«new».out c.read_file_header.result refl (long_here c.args.draft.now.image c.args.file c.requires.files c.requires.file c.requires.there) c.read.ensures c.read_file_header.ensures in
    let n = same_number _ c.natural.result (sym (to_z-of_z w32 c.read_file_header.result.unused.ofs f ∙ header_ofs c.args.draft.now.image c.args.file c.requires.files c.requires.file c.requires.there c.read_file_header.result is) ∙ c.natural.ensures) in
    let from = header_from c.args.draft.now.image c.args.file c.requires.files c.requires.file c.requires.there in
    omega (arith, n, from)

pub returns-clause-to : goal.returns-clause-to
returns-clause-to c =
    let f : FitsSigned w32 c.read_file_header.result.unused.ofs = search rules in
    let is = read_header c.args.draft.now.image c.args.file _ c.read.«new».out c.read_file_header.result refl (long_here c.args.draft.now.image c.args.file c.requires.files c.requires.file c.requires.there) c.read.ensures c.read_file_header.ensures in
    let n = same_number _ c.natural.result (sym (to_z-of_z w32 c.read_file_header.result.unused.ofs f ∙ header_ofs c.args.draft.now.image c.args.file c.requires.files c.requires.file c.requires.there c.read_file_header.result is) ∙ c.natural.ensures) in
    let to = header_to c.args.draft.now.image c.args.file c.requires.files c.requires.file c.requires.there in
    omega (arith, n, to)
