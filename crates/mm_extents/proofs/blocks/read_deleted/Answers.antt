use Rattle.mm_ranges.specs.Overlay.{bytes_at}
use Rattle.mm_frames.specs.DeletedHeader.{deleted_header_of}
use Rattle.mm_extents.proofs.Fields.{read_is}
use Rattle.mm_extents.proofs.blocks.read_deleted.Goals as goal

pub returns : goal.returns
returns c = read_is deleted_header_of c.args.at.ofs 16 (bytes_at c.args.draft.now.image c.args.at.file) c.read.«new».out c.read_deleted_header.result c.requires c.read.ensures c.read_deleted_header.ensures
