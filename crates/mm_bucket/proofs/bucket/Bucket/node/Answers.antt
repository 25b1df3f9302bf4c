use Rattle.std.proofs.Common.{ap, ◌∙◌, subst}
use Rattle.mm_frames.specs.declared.key_node.KeyNode.{KeyNode}
use Rattle.mm_bucket.specs.Layout.{Held}
use Rattle.mm_bucket.proofs.Heading.{has_pair}
use Rattle.mm_bucket.proofs.bucket.Bucket.node.Goals as goal

pub returns-clause-left : goal.returns-clause-left
returns-clause-left c =
    let b = c.self.inside in
    let h = subst (Held b.bytes b.count b.begin) c.self.view_is c.self.invariant in
    ap (λ (x : KeyNode). x.left) c.read_key_node.ensures ∙ (has_pair b.bytes b.count b.begin c.args.place c.args.self.now h c.requires).left

pub returns-clause-rec : goal.returns-clause-rec
returns-clause-rec c =
    let b = c.self.inside in
    let h = subst (Held b.bytes b.count b.begin) c.self.view_is c.self.invariant in
    ap (λ (x : KeyNode). x.rec) c.read_key_node.ensures ∙ (has_pair b.bytes b.count b.begin c.args.place c.args.self.now h c.requires).rec
