use Rattle.std.proofs.Common.{refl}
use Rattle.mm_nstable.specs.Changes.{ns_of}
use Rattle.mm_nstable.proofs.Written.{head_is}
use Rattle.mm_nstable.proofs.nodes.head.Goals as goal

pub returns : goal.returns
returns c = head_is (ns_of c.args.draft.now) c.read.«new».out c.place.result c.args.node _ c.read_node_head.result c.requires c.place.ensures.is refl c.read.ensures c.read_node_head.ensures
