use Rattle.std.proofs.Common.{◌≡◌, ℕ, ◌+◌, ◌≤◌, refl, sym, ◌∙◌, subst}
use Rattle.mm_base.specs.declared.place.DiskLoc.{DiskLoc}
use Rattle.mm_btree.specs.Nodes.{Item}
use Rattle.mm_btree.specs.Trees.{Sub}
use Rattle.mm_btree.specs.Order.{item_lt}
use Rattle.mm_btree.specs.Changes.{IsChanged}
use Rattle.mm_btree.specs.Removal.{without}
use Rattle.mm_trees.proofs.Finding.{rooted, at_height}
use Rattle.mm_btree.specs.Costs.{remove_asks, remove_weighs}
use Rattle.mm_trees.proofs.changes.take_out.Goals as goal

pub height_of-requires : goal.height_of-requires
height_of-requires g c =
    let r = c.requires.tree in
    (r.0, (r.1.0, rooted c.args.spec.now (g.S.NodeStore.bucket_at c.args.store.now) c.args.root r.0 r.1.0 r.1.1))

pub remove-requires-clause-tree : goal.remove-requires-clause-tree
remove-requires-clause-tree g c =
    let r = c.requires.tree in
    (r.1.0, at_height c.args.spec.now (g.S.NodeStore.bucket_at c.args.store.now) c.args.root c.in_ok-height.height r.0 r.1.0 c.in_ok-height.ensures.is r.1.1)

pub returns-in-Some-clause-out : goal.returns-in-Some-clause-out
returns-in-Some-clause-out g c = λ after e h s t.
    let m = g.S.NodeStore.bucket_at c.args.store.now in
    let n = g.S.NodeStore.bucket_at c.remove.new.store in
    let x : Item = record { key = c.args.key.now; rec = c.args.rec } in
    let y = c.in_ok-remove.ensures.out c.in-Some.after c.in-Some.is s (at_height c.args.spec.now m c.args.root c.in_ok-height.height h s c.in_ok-height.ensures.is t) in
    let same : c.in-Some.after.place ≡ after = cc in
    (c.in-Some.after.height, subst (λ (p : DiskLoc). (t : Sub) × IsChanged (item_lt c.args.spec.now) m n p c.in-Some.after.height s (without c.args.spec.now x s.pairs) t) same y)

pub returns-in-None-clause-there : goal.returns-in-None-clause-there
returns-in-None-clause-there g c = λ h s t.
    let y = c.in_ok-remove.ensures.there s (at_height c.args.spec.now (g.S.NodeStore.bucket_at c.args.store.now) c.args.root c.in_ok-height.height h s c.in_ok-height.ensures.is t) in
    (λ _. y.0 c.in-None.is, λ _. refl)

pub returns-in-Some-clause-there : goal.returns-in-Some-clause-there
returns-in-Some-clause-there g c = λ h s t.
    let y = c.in_ok-remove.ensures.there s (at_height c.args.spec.now (g.S.NodeStore.bucket_at c.args.store.now) c.args.root c.in_ok-height.height h s c.in_ok-height.ensures.is t) in
    (λ e. absurd cc, λ l. absurd (let e = sym c.in-Some.is ∙ y.1 l in cc))

pub returns-in-None-clause-kept : goal.returns-in-None-clause-kept
returns-in-None-clause-kept g c = λ _. c.in_ok-remove.ensures.kept c.in-None.is

pub returns-in-None-clause-asked : goal.returns-in-None-clause-asked
returns-in-None-clause-asked g c = λ h s t.
    subst (λ (n : ℕ). g.S.NodeStore.asked c.remove.new.store ≤ g.S.NodeStore.asked c.args.store.now + remove_asks n)
    (c.in_ok-height.ensures.is h s (rooted c.args.spec.now (g.S.NodeStore.bucket_at c.args.store.now) c.args.root h s t)) c.remove.ensures.asked

pub returns-in-None-clause-weight : goal.returns-in-None-clause-weight
returns-in-None-clause-weight g c = λ h s t.
    subst (λ (n : ℕ). g.S.NodeStore.declared c.remove.new.store ≤ g.S.NodeStore.declared c.args.store.now + remove_weighs n)
    (c.in_ok-height.ensures.is h s (rooted c.args.spec.now (g.S.NodeStore.bucket_at c.args.store.now) c.args.root h s t)) c.remove.ensures.weight

pub returns-in-Some-clause-asked : goal.returns-in-Some-clause-asked
returns-in-Some-clause-asked g c = λ h s t.
    subst (λ (n : ℕ). g.S.NodeStore.asked c.remove.new.store ≤ g.S.NodeStore.asked c.args.store.now + remove_asks n)
    (c.in_ok-height.ensures.is h s (rooted c.args.spec.now (g.S.NodeStore.bucket_at c.args.store.now) c.args.root h s t)) c.remove.ensures.asked

pub returns-in-Some-clause-weight : goal.returns-in-Some-clause-weight
returns-in-Some-clause-weight g c = λ h s t.
    subst (λ (n : ℕ). g.S.NodeStore.declared c.remove.new.store ≤ g.S.NodeStore.declared c.args.store.now + remove_weighs n)
    (c.in_ok-height.ensures.is h s (rooted c.args.spec.now (g.S.NodeStore.bucket_at c.args.store.now) c.args.root h s t)) c.remove.ensures.weight

pub returns-in_err-remove-clause-asked : goal.returns-in_err-remove-clause-asked
returns-in_err-remove-clause-asked g c = λ h s t.
    subst (λ (n : ℕ). g.S.NodeStore.asked c.remove.new.store ≤ g.S.NodeStore.asked c.args.store.now + remove_asks n)
    (c.in_ok-height.ensures.is h s (rooted c.args.spec.now (g.S.NodeStore.bucket_at c.args.store.now) c.args.root h s t)) c.remove.ensures.asked

pub returns-in_err-remove-clause-weight : goal.returns-in_err-remove-clause-weight
returns-in_err-remove-clause-weight g c = λ h s t.
    subst (λ (n : ℕ). g.S.NodeStore.declared c.remove.new.store ≤ g.S.NodeStore.declared c.args.store.now + remove_weighs n)
    (c.in_ok-height.ensures.is h s (rooted c.args.spec.now (g.S.NodeStore.bucket_at c.args.store.now) c.args.root h s t)) c.remove.ensures.weight
