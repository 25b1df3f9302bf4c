use Rattle.std.proofs.Common.{◌∙◌, ap, length, get_or, arith}
use Rattle.mm_frames.specs.declared.details.Details.{Details}
use Rattle.mm_frames.specs.declared.index_pair.IndexPair.{IndexPair}
use Rattle.mm_nstable.specs.Nodes.{node_at}
use Rattle.mm_records.specs.Constants.{no_pair}
use Rattle.mm_records.specs.Stands.{ns_in}
use Rattle.mm_records.proofs.FreeSteps.{used_there}
use Rattle.mm_trees.proofs.RootLaws.{pairs_long, same_at}
use Rattle.mm_trees.proofs.roots.root_of.Goals as goal

pub details-requires : goal.details-requires
details-requires c = used_there _ c.args.owner c.requires.used

pub returns : goal.returns
returns c =
    let e = c.details.ensures.is in
    let l = ap (λ (d : Details). length d.indexes) e in
    let m = pairs_long (node_at (ns_in c.args.draft.now.image) c.args.owner) in
    let i = c.requires.inside in
    ap (λ (p : IndexPair). p.head) (same_at c.details.result.indexes c.args.position c.index-details-position.result no_pair (omega (arith, l, m, i)))
    ∙ ap (λ (d : Details). (get_or d.indexes c.args.position no_pair).head) e
