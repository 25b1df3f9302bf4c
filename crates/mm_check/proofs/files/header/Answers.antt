use Rattle.std.proofs.Common.{◌∙◌}
use Rattle.mm_ranges.specs.Overlay.{bytes_at}
use Rattle.mm_extents.proofs.Fields.{read_part}
use Rattle.mm_check.proofs.files.header.Goals as goal

pub returns : goal.returns
returns c = c.read.ensures ∙ read_part 0 8192 (bytes_at c.args.views.now.private c.args.file)
