use Rattle.std.proofs.Common.{◌++◌, List, map, ◌∙◌, ap}
use Rattle.std.proofs.lemmas.Result.{on_ok_weaker}
use Rattle.mm_btree.specs.Nodes.{Item}
use Rattle.mm_btree.specs.Listed.{rec_of}
use Rattle.mm_trees.proofs.Finding.{seen_root, seen_high}
use Rattle.mm_trees.proofs.tree.Tree.walk.Goals as goal

pub root_of-root-requires-clause-used : goal.root_of-root-requires-clause-used
root_of-root-requires-clause-used c = c.requires.1.owner_is.used

pub root_of-root-requires-clause-inside : goal.root_of-root-requires-clause-inside
root_of-root-requires-clause-inside c = c.requires.1.inside

pub new-view-requires : goal.new-view-requires
new-view-requires c = let x = c.requires.1 in (x.free, (x.shape, x.holds))

pub height_of-requires : goal.height_of-requires
height_of-requires c = seen_root c.args.draft.now c.new-view.result c.args.self.now.store.node c.args.self.now.owner c.args.self.now.position c.args.self.now.spec c.root_of-root.result c.new-view.ensures c.root_of-root.ensures c.requires.0 c.requires.1

pub walk-requires : goal.walk-requires
walk-requires c = (c.requires.1.s, seen_high c.args.draft.now c.new-view.result c.args.self.now.store.node c.args.self.now.owner c.args.self.now.position c.args.self.now.spec c.root_of-root.result c.new-view.ensures c.root_of-root.ensures c.in_ok-height.height c.in_ok-height.ensures.is c.requires.0 c.requires.1)

pub returns : goal.returns
returns c = on_ok_weaker c.walk.result (λ f pairs x.
    f x.s (seen_high c.args.draft.now c.new-view.result c.args.self.now.store.node c.args.self.now.owner c.args.self.now.position c.args.self.now.spec c.root_of-root.result c.new-view.ensures c.root_of-root.ensures c.in_ok-height.height c.in_ok-height.ensures.is pairs x)
    ∙ ap (λ (ps : List Item). c.args.out.now.items ++ map rec_of ps) x.listed) c.walk.ensures
