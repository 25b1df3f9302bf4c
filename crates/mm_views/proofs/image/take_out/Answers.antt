use Rattle.std.proofs.Common.{◌∙◌, ap, None}
use Rattle.std.proofs.Math.ListN.{set}
use Rattle.mm_views.specs.Files.{image_of}
use Rattle.mm_views.proofs.Slots.{image_of-unset}
use Rattle.mm_views.proofs.image.take_out.Goals as goal

pub returns : goal.returns
returns c = ap (λ k. image_of (set c.args.files.now k None)) c.slot.ensures.slot ∙ image_of-unset c.args.files.now c.args.file c.requires.slots c.requires.allowed
