use Rattle.std.proofs.lemmas.Result.{IfOk-weaker, on_ok_weaker}
use Rattle.mm_btree.specs.Changes.{height_after}
use Rattle.mm_trees.proofs.Finding.{rooted, at_height}
use Rattle.std.proofs.Common.{ℕ, ◌+◌, ◌≤◌, subst}
use Rattle.mm_btree.specs.Costs.{insert_asks, insert_weighs}
use Rattle.mm_trees.proofs.changes.put_in.Goals as goal

pub height_of-requires : goal.height_of-requires
height_of-requires g c =
    let r = c.requires.tree in
    (r.0, (r.1.0, rooted c.args.spec.now (g.S.NodeStore.bucket_at c.args.store.now) c.args.root r.0 r.1.0 r.1.1.0))

pub insert-requires-clause-tree : goal.insert-requires-clause-tree
insert-requires-clause-tree g c =
    let r = c.requires.tree in
    (r.1.0, at_height c.args.spec.now (g.S.NodeStore.bucket_at c.args.store.now) c.args.root c.in_ok-height.height r.0 r.1.0 c.in_ok-height.ensures.is r.1.1.0, r.1.1.1)

pub returns-clause-ok : goal.returns-clause-ok
returns-clause-ok g c = IfOk-weaker c.insert.result _ _ (λ r f h s t l.
    (height_after c.in_ok-height.height r, f s (at_height c.args.spec.now (g.S.NodeStore.bucket_at c.args.store.now) c.args.root c.in_ok-height.height h s c.in_ok-height.ensures.is t) l)) c.insert.ensures.ok

pub returns-clause-alone : goal.returns-clause-alone
returns-clause-alone g c = on_ok_weaker c.insert.result (λ f h s t u.
    f s (at_height c.args.spec.now (g.S.NodeStore.bucket_at c.args.store.now) c.args.root c.in_ok-height.height h s c.in_ok-height.ensures.is t) u) c.insert.ensures.alone

pub returns-clause-duplicate : goal.returns-clause-duplicate
returns-clause-duplicate g c = λ e h s t.
    c.insert.ensures.duplicate e s (at_height c.args.spec.now (g.S.NodeStore.bucket_at c.args.store.now) c.args.root c.in_ok-height.height h s c.in_ok-height.ensures.is t)

pub returns-clause-asked : goal.returns-clause-asked
returns-clause-asked g c = λ h s t.
    subst (λ (n : ℕ). g.S.NodeStore.asked c.insert.new.store ≤ g.S.NodeStore.asked c.args.store.now + insert_asks n)
    (c.in_ok-height.ensures.is h s (rooted c.args.spec.now (g.S.NodeStore.bucket_at c.args.store.now) c.args.root h s t)) c.insert.ensures.asked

pub returns-clause-weight : goal.returns-clause-weight
returns-clause-weight g c = λ h s t.
    subst (λ (n : ℕ). g.S.NodeStore.declared c.insert.new.store ≤ g.S.NodeStore.declared c.args.store.now + insert_weighs n)
    (c.in_ok-height.ensures.is h s (rooted c.args.spec.now (g.S.NodeStore.bucket_at c.args.store.now) c.args.root h s t)) c.insert.ensures.weight
