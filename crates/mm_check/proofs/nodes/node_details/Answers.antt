use Rattle.std.proofs.Common.{refl}
use Rattle.mm_nstable.proofs.Written.{details_are}
use Rattle.mm_records.specs.Stands.{ns_in}
use Rattle.mm_check.proofs.nodes.node_details.Goals as goal

pub returns : goal.returns
returns c = details_are (ns_in c.args.views.now.private) c.read.«new».out c.node_ofs.result c.args.node _ c.read_details.result c.requires c.node_ofs.ensures.is refl c.read.ensures c.read_details.ensures
