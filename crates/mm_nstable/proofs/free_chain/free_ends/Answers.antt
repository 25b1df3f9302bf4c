use Rattle.std.proofs.Common.{sym, ◌∙◌, ap}
use Rattle.mm_frames.specs.declared.details.Details.{Details}
use Rattle.mm_nstable.specs.Changes.{ns_of}
use Rattle.mm_nstable.specs.FreeChain.{ends_of}
use Rattle.mm_nstable.proofs.FreeNodes.{is_held}
use Rattle.mm_nstable.proofs.free_chain.free_ends.Goals as goal

pub returns : goal.returns
returns c = λ free held h.
    let i = is_held (ns_of c.args.draft.now) free held c.free_node.result c.requires.table h c.free_node.ensures in
    ap (λ (d : Details). ends_of d) (c.details-details.ensures.is ∙ sym i.details)
