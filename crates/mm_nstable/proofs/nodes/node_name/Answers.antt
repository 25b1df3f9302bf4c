use Rattle.std.proofs.Common.{◌∙◌, ap, sym}
use Rattle.std.specs.Prelude.{◌==◌}
use Rattle.mm_frames.specs.declared.node_head.NodeHead.{NodeHead}
use Rattle.mm_nstable.specs.Nodes.{node_at}
use Rattle.mm_nstable.specs.Changes.{ns_of}
use Rattle.mm_nstable.proofs.Tables.{name_read}
use Rattle.mm_nstable.proofs.Loops.{not_zero}
use Rattle.mm_nstable.proofs.nodes.node_name.Goals as goal

pub returns-clause-some : goal.returns-clause-some
returns-clause-some c =
    name_read (node_at (ns_of c.args.draft.now) c.args.node) c.head-head.result c.from_padded.result c.head-head.ensures
    (ap (λ (h : NodeHead). h.hash == 0) (sym c.head-head.ensures) ∙ not_zero c.head-head.result.hash c.if-head-eq0.false) c.from_padded.ensures.some
