use Rattle.std.proofs.Common.{◌∙◌, ap}
use Rattle.std.proofs.lemmas.Result.{IfOk-weaker}
use Rattle.mm_base.specs.Places.{null}
use Rattle.mm_bson.specs.Tree.{Elements}
use Rattle.mm_btree.specs.Order.{first_with}
use Rattle.mm_trees.proofs.Finding.{seen_root, seen_high}
use Rattle.mm_trees.proofs.tree.Tree.find.Goals as goal

pub root_of-root-requires-clause-used : goal.root_of-root-requires-clause-used
root_of-root-requires-clause-used c = c.requires.1.owner_is.used

pub root_of-root-requires-clause-inside : goal.root_of-root-requires-clause-inside
root_of-root-requires-clause-inside c = c.requires.1.inside

pub new-view-requires : goal.new-view-requires
new-view-requires c = let x = c.requires.1 in (x.free, (x.shape, x.holds))

pub height_of-requires : goal.height_of-requires
height_of-requires c = seen_root c.args.draft.now c.new-view.result c.args.self.now.store.node c.args.self.now.owner c.args.self.now.position c.args.self.now.spec c.root_of-root.result c.new-view.ensures c.root_of-root.ensures c.requires.0 c.requires.1

pub find-requires : goal.find-requires
find-requires c = (null, c.requires.1.s, seen_high c.args.draft.now c.new-view.result c.args.self.now.store.node c.args.self.now.owner c.args.self.now.position c.args.self.now.spec c.root_of-root.result c.new-view.ensures c.root_of-root.ensures c.in_ok-height.height c.in_ok-height.ensures.is c.requires.0 c.requires.1)

pub returns : goal.returns
returns c = IfOk-weaker c.find.result _ _ (λ r f pairs x.
    f null x.s (seen_high c.args.draft.now c.new-view.result c.args.self.now.store.node c.args.self.now.owner c.args.self.now.position c.args.self.now.spec c.root_of-root.result c.new-view.ensures c.root_of-root.ensures c.in_ok-height.height c.in_ok-height.ensures.is pairs x)
    ∙ ap (λ (key : Elements). first_with c.args.self.now.spec key x.s.pairs) c.as_ref.ensures ∙ ap (first_with c.args.self.now.spec c.args.key.now) x.listed) c.find.ensures
