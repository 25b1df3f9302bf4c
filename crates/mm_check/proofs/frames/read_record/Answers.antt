use Rattle.mm_ranges.specs.Overlay.{bytes_at}
use Rattle.mm_frames.specs.RecHeader.{rec_header_of}
use Rattle.mm_extents.proofs.Fields.{read_is}
use Rattle.mm_check.proofs.frames.read_record.Goals as goal

pub returns : goal.returns
returns c = read_is rec_header_of c.args.at.1 16 (bytes_at c.args.views.now.private c.args.at.0) c.read.«new».out c.read_rec_header.result c.requires c.read.ensures c.read_rec_header.ensures
