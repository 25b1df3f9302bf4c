use Rattle.std.proofs.Common.{◌∙◌, ap, Some}
use Rattle.std.proofs.Math.ListN.{set}
use Rattle.mm_views.specs.Files.{image_of}
use Rattle.mm_views.proofs.Slots.{image_of-set}
use Rattle.mm_views.proofs.image.put_in.Goals as goal

pub returns : goal.returns
returns c = ap (λ k. image_of (set c.args.files.now k (Some c.args.bytes))) c.slot.ensures.slot ∙ image_of-set c.args.files.now c.args.file c.args.bytes c.requires.slots c.requires.allowed
