use Rattle.std.proofs.Common.{[], inl, Some, refl, sym, ◌∙◌, ap, subst}
use Rattle.mm_base.specs.Places.{null}
use Rattle.mm_base.specs.declared.place.DiskLoc.{DiskLoc}
use Rattle.mm_base.proofs.PlaceLaws.{place_same}
use Rattle.mm_bucket.specs.Pairs.{Contents}
use Rattle.mm_bucket.specs.Rules.{children, AreAlike}
use Rattle.mm_btree.specs.Nodes.{Node, put}
use Rattle.mm_trees.specs.Buckets.{IsStep, bucket_in}
use Rattle.mm_trees.proofs.Changing.{goes_put, owner_used, table_after, root_is, made, empty_node}
use Rattle.mm_trees.proofs.tree.Tree.make.Goals as goal

pub add_bucket-requires-clause-holds : goal.add_bucket-requires-clause-holds
add_bucket-requires-clause-holds c = let i = c.requires in (i.free, (i.shape, i.holds))

pub add_bucket-requires-clause-alike : goal.add_bucket-requires-clause-alike
add_bucket-requires-clause-alike c = subst (λ (b : Contents). AreAlike (children b)) (sym c.new.ensures) (inl (refl, tt))

pub put_root-requires-clause-table : goal.put_root-requires-clause-table
put_root-requires-clause-table c = let i = c.requires in table_after c.args.draft.now.image c.add_bucket.new.draft.image c.args.self.now.store.node 1 i.free i.shape i.holds c.in_ok-root.ensures.step.goes

pub put_root-requires-clause-used : goal.put_root-requires-clause-used
put_root-requires-clause-used c = let i = c.requires in owner_used c.args.draft.now.image c.add_bucket.new.draft.image c.args.self.now.store.node c.args.self.now.owner 1 i.free i.shape i.holds i.owner_is.used c.in_ok-root.ensures.step.goes

pub put_root-requires-clause-inside : goal.put_root-requires-clause-inside
put_root-requires-clause-inside c = c.requires.inside

pub returns-clause-ok : goal.returns-clause-ok
returns-clause-ok c =
    let old = c.args.draft.now.image in
    let mid = c.add_bucket.new.draft.image in
    let node = c.args.self.now.store.node in
    let empty = c.new.ensures ∙ ap (λ (p : DiskLoc). record { parent = p; pairs = []; next = null }) (place_same _ null refl refl) in
    made old mid c.put_root.new.draft.image node c.args.self.now.owner c.args.self.now.position c.args.self.now.spec c.in_ok-root.root c.requires
    (subst (λ (v : Node). IsStep old mid node 1 (put (bucket_in old node) c.in_ok-root.root (Some v))) (empty_node c.new.result empty) c.in_ok-root.ensures.step) c.in_ok-put_root.ensures.put

pub returns-clause-root : goal.returns-clause-root
returns-clause-root c = root_is c.add_bucket.new.draft.image c.put_root.new.draft.image c.args.self.now.owner c.args.self.now.position c.in_ok-root.root c.in_ok-put_root.ensures.put c.requires.inside

pub returns-clause-beside : goal.returns-clause-beside
returns-clause-beside c =
    goes_put c.args.draft.now.image c.add_bucket.new.draft.image c.put_root.new.draft.image c.args.self.now.store.node c.args.self.now.owner c.args.self.now.position 1 c.in_ok-root.root c.in_ok-root.ensures.step.goes c.in_ok-put_root.ensures.put c.requires.inside
