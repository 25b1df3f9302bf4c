use Rattle.std.proofs.Common.{refl, subst}
use Rattle.mm_base.specs.Places.{null}
use Rattle.mm_btree.specs.Nodes.{Item}
use Rattle.mm_btree.specs.Trees.{Sub}
use Rattle.mm_btree.specs.Changes.{IsChanged}
use Rattle.mm_btree.specs.Order.{item_lt}
use Rattle.mm_btree.specs.Removal.{without, IsGone}
use Rattle.mm_btree.specs.declared.whole.Root.{Root}
use Rattle.mm_btree.proofs.Takings.{taken_present}
use Rattle.mm_btree.proofs.WholeCalls.{out_left, some_same}
use Rattle.mm_btree.proofs.whole.remove.Goals as goal

pub remove_below-requires-clause-stands : goal.remove_below-requires-clause-stands
remove_below-requires-clause-stands g c = let w = c.requires.tree in (null, w.0, w.1)

pub settle_root-requires-clause-left : goal.settle_root-requires-clause-left
settle_root-requires-clause-left g c =
    let node = g.S.NodeStore.bucket_at in
    let m = node c.args.store.now in
    let n = node c.remove_below.new.store in
    let spec = c.args.spec.now in
    let x : Item = record { key = c.args.key.now; rec = c.args.rec } in
    let r = c.in-Some.removed in
    let w = c.requires.tree in
    let out = subst (IsGone spec m n c.args.root c.args.height x) c.in-Some.is c.in_ok-remove_below.ensures.ok in
    let l = out_left spec m n c.args.root c.args.height x r.instead r.outcome w.0 out w.1 in
    (m, w.0, l.0, l.1)

pub stand_in-requires-clause-turned : goal.stand_in-requires-clause-turned
stand_in-requires-clause-turned g c =
    let node = g.S.NodeStore.bucket_at in
    let m = node c.args.store.now in
    let n = node c.remove_below.new.store in
    let spec = c.args.spec.now in
    let x : Item = record { key = c.args.key.now; rec = c.args.rec } in
    let r = c.in-Some.removed in
    let w = c.requires.tree in
    let out = subst (IsGone spec m n c.args.root c.args.height x) c.in-Some.is c.in_ok-remove_below.ensures.ok in
    let l = out_left spec m n c.args.root c.args.height x r.instead r.outcome w.0 out w.1 in
    let t = c.in_ok-turned-in-Some.ensures.ok (item_lt spec) m w.0 l.0 l.1 l.3 in
    (m, w.0, l.0, t.0, record { order = w.1.order; out = l.2; changed = t.1 })

pub returns-in-None-clause-there : goal.returns-in-None-clause-there
returns-in-None-clause-there g c =
    let node = g.S.NodeStore.bucket_at in
    let m = node c.args.store.now in
    let n = node c.remove_below.new.store in
    let spec = c.args.spec.now in
    let x : Item = record { key = c.args.key.now; rec = c.args.rec } in
    let missing = subst (IsGone spec m n c.args.root c.args.height x) c.in-None.is c.in_ok-remove_below.ensures.ok in
    λ s t. (λ e. missing null s t, λ h. refl)

pub returns-in-None-clause-kept : goal.returns-in-None-clause-kept
returns-in-None-clause-kept g c = λ e. c.in_ok-remove_below.ensures.kept c.in-None.is

pub returns-in_ok-last-in-Some-clause-out : goal.returns-in_ok-last-in-Some-clause-out
returns-in_ok-last-in-Some-clause-out g c =
    let node = g.S.NodeStore.bucket_at in
    let m = node c.args.store.now in
    let n = node c.remove_below.new.store in
    let o = node c.stand_in.new.store in
    let spec = c.args.spec.now in
    let x : Item = record { key = c.args.key.now; rec = c.args.rec } in
    let r = c.in-Some.removed in
    let last = c.in_ok-last-in-Some.last in
    let out = subst (IsGone spec m n c.args.root c.args.height x) c.in-Some.is c.in_ok-remove_below.ensures.ok in
    λ a e s t.
    let l = out_left spec m n c.args.root c.args.height x r.instead r.outcome s out t in
    let u = c.in_ok-turned-in-Some.ensures.ok (item_lt spec) m s l.0 l.1 l.3 in
    subst (λ (z : Root). (v : Sub) × IsChanged (item_lt spec) m o z.place z.height s (without spec x s.pairs) v) (some_same last a e)
    (c.in_ok-last-in-Some.ensures.ok m s l.0 u.0 (record { order = t.order; out = l.2; changed = u.1 }))

pub returns-in_ok-last-in-Some-clause-there : goal.returns-in_ok-last-in-Some-clause-there
returns-in_ok-last-in-Some-clause-there g c =
    let node = g.S.NodeStore.bucket_at in
    let m = node c.args.store.now in
    let n = node c.remove_below.new.store in
    let spec = c.args.spec.now in
    let x : Item = record { key = c.args.key.now; rec = c.args.rec } in
    let r = c.in-Some.removed in
    let out = subst (IsGone spec m n c.args.root c.args.height x) c.in-Some.is c.in_ok-remove_below.ensures.ok in
    λ s t. let l = out_left spec m n c.args.root c.args.height x r.instead r.outcome s out t in (λ e. absurd cc, λ h. absurd (taken_present spec x s.pairs l.0 r.instead l.2 h))
