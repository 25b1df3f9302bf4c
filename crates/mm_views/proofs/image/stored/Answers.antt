use Rattle.std.proofs.Common.{◌∙◌, sym}
use Rattle.mm_views.proofs.Slots.{get-read, get-no_file}
use Rattle.mm_views.proofs.image.stored.Goals as goal

pub returns-then-not-is_file : goal.returns-then-not-is_file
returns-then-not-is_file c = sym (get-no_file c.args.files.now c.args.file c.requires (sym c.if-not-is_file.ensures))

pub returns : goal.returns
returns c = c.as_ref.ensures.value ∙ get-read c.args.files.now c.args.file c.slot.result c.index-files-slot.result c.requires (sym c.if-not-is_file.ensures) c.slot.ensures.slot c.index-files-slot.is
