use Rattle.mm_ranges.specs.Overlay.{bytes_at}
use Rattle.mm_frames.specs.DeletedHeader.{deleted_header_of}
use Rattle.mm_extents.proofs.Fields.{read_is}
use Rattle.mm_check.proofs.frames.read_deleted.Goals as goal

pub returns : goal.returns
returns c = read_is deleted_header_of c.args.at.1 16 (bytes_at c.args.views.now.private c.args.at.0) c.read.«new».out c.read_deleted_header.result c.requires c.read.ensures c.read_deleted_header.ensures
