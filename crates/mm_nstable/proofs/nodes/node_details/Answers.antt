use Rattle.std.proofs.Common.{refl}
use Rattle.mm_nstable.specs.Changes.{ns_of}
use Rattle.mm_nstable.proofs.Written.{details_are}
use Rattle.mm_nstable.proofs.nodes.node_details.Goals as goal

pub returns : goal.returns
returns c = details_are (ns_of c.args.draft.now) c.read.«new».out c.place.result c.args.node _ c.read_details.result c.requires c.place.ensures.is refl c.read.ensures c.read_details.ensures
