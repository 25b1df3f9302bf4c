use Rattle.std.proofs.Common.{◌∙◌, ap, sym, ℕ, List, Option, Some, length, arith, []}
use Rattle.std.proofs.Math.ListN.{set}
use Rattle.std.specs.Prelude.{unwrap_or}
use Rattle.mm_views.specs.Files.{image_of}
use Rattle.mm_views.proofs.Slots.{get-read, there_is_file, image_of-laid, is_there}
use Rattle.mm_views.proofs.image.lay.Goals as goal

pub slot-requires : goal.slot-requires
slot-requires c = there_is_file c.args.files.now c.args.file c.requires.slots c.requires.there

pub overwrite-requires : goal.overwrite-requires
overwrite-requires c =
    let here = sym c.in-Some.is ∙ sym c.index-files-slot.is
    ∙ get-read c.args.files.now c.args.file c.slot.result c.index-files-slot.result c.requires.slots (there_is_file c.args.files.now c.args.file c.requires.slots c.requires.there) c.slot.ensures.slot c.index-files-slot.is in
    let same = ap (λ (o : Option (List ℕ)). length (unwrap_or o [])) here in
    omega (arith, same, c.requires.inside)

pub unreachable-requires : goal.unreachable-requires
unreachable-requires c =
    is_there c.args.files.now c.args.file c.requires.there
    (sym (get-read c.args.files.now c.args.file c.slot.result c.index-files-slot.result c.requires.slots (there_is_file c.args.files.now c.args.file c.requires.slots c.requires.there) c.slot.ensures.slot c.index-files-slot.is)
    ∙ c.index-files-slot.is ∙ c.in-None.is)

pub returns : goal.returns
returns c =
    let is_file = there_is_file c.args.files.now c.args.file c.requires.slots c.requires.there in
    let here = sym c.in-Some.is ∙ sym c.index-files-slot.is ∙ get-read c.args.files.now c.args.file c.slot.result c.index-files-slot.result c.requires.slots is_file c.slot.ensures.slot c.index-files-slot.is in
    ap (λ (b : List ℕ). image_of (set c.args.files.now c.slot.result (Some b))) c.overwrite.ensures
    ∙ image_of-laid c.args.files.now c.args.file c.slot.result c.args.at c.in-Some.old c.args.bytes.now c.requires.slots is_file c.slot.ensures.slot here
