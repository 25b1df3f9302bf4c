use Rattle.std.proofs.Common.{refl}
use Rattle.mm_nstable.proofs.Written.{head_is}
use Rattle.mm_records.specs.Stands.{ns_in}
use Rattle.mm_check.proofs.nodes.node_head.Goals as goal

pub returns : goal.returns
returns c = head_is (ns_in c.args.views.now.private) c.read.«new».out c.node_ofs.result c.args.node _ c.read_node_head.result c.requires c.node_ofs.ensures.is refl c.read.ensures c.read_node_head.ensures
