use Rattle.std.proofs.Common.{ap, set}
use Rattle.mm_frames.specs.declared.index_pair.IndexPair.{IndexPair}
use Rattle.mm_records.specs.Constants.{no_pair}
use Rattle.mm_trees.proofs.RootLaws.{same_at}
use Rattle.mm_trees.proofs.roots.named.Goals as goal

pub returns : goal.returns
returns c =
    let same = same_at c.args.counts.indexes c.args.position c.index-counts-position.result no_pair c.requires in
    ap (λ (p : IndexPair). record c.args.counts { indexes = set c.args.counts.indexes c.args.position (record p { head = c.args.root }) }) same
