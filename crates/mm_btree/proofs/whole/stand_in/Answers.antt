use Rattle.std.proofs.Common.{List}
use Rattle.std.proofs.lemmas.Result.{IfOk-weaker}
use Rattle.mm_btree.specs.Nodes.{Item, Buckets}
use Rattle.mm_btree.specs.Trees.{Sub}
use Rattle.mm_btree.specs.Lists.{Sorted}
use Rattle.mm_btree.specs.Changes.{IsTree, IsChanged}
use Rattle.mm_btree.specs.Order.{item_lt, IsLacking}
use Rattle.mm_btree.specs.Removal.{without, exchanged, IsTurned}
use Rattle.mm_btree.proofs.WholeCalls.{removed_none, removed_some, stead_ready, stead_sorted}
use Rattle.mm_btree.proofs.whole.stand_in.Goals as goal

pub exchange_pair-requires-clause-tree : goal.exchange_pair-requires-clause-tree
exchange_pair-requires-clause-tree g c =
    let spec = c.args.spec.now in
    let x : Item = record { key = c.args.key.now; rec = c.args.rec } in
    let w = c.requires.turned in
    (w.3, w.4.changed.tree, stead_ready spec x c.in-Some.before c.args.instead w.1 w.2 w.3.pairs c.in-Some.is w.4.out w.4.changed.holds)

pub returns-in-None-clause-ok : goal.returns-in-None-clause-ok
returns-in-None-clause-ok g c =
    let n = g.S.NodeStore.bucket_at c.args.store.now in
    let spec = c.args.spec.now in
    let x : Item = record { key = c.args.key.now; rec = c.args.rec } in
    λ m s list t v. removed_none spec m n c.args.root.place c.args.root.height s x c.args.instead list c.in-None.is v.out v.order (t, v.changed)

pub returns-in-Some-clause-ok : goal.returns-in-Some-clause-ok
returns-in-Some-clause-ok g c =
    let node = g.S.NodeStore.bucket_at in
    let n = node c.args.store.now in
    let o = node c.exchange_pair.new.store in
    let spec = c.args.spec.now in
    let lt = item_lt spec in
    let x : Item = record { key = c.args.key.now; rec = c.args.rec } in
    let y = c.in-Some.before in
    let root = c.args.root in
    IfOk-weaker c.exchange_pair.result
    (λ r. (s : Sub) → IsTree lt n root.place root.height s → (IsLacking spec x s.pairs → ⊥) → Sorted lt (exchanged spec x y s.pairs) → (t : Sub) × IsChanged lt n o r.place r.height s (exchanged spec x y s.pairs) t)
    (λ r. (m : Buckets) (s : Sub) (list : List Item) (t : Sub) → IsTurned spec m n root.place root.height x c.args.instead s list t → (u : Sub) × IsChanged lt m o r.place r.height s (without spec x s.pairs) u)
    (λ r f m s list t v.
    removed_some spec m n o root.place r.place root.height r.height s t x y c.args.instead list c.in-Some.is v.out v.order v.changed
    (f t v.changed.tree (stead_ready spec x y c.args.instead s list t.pairs c.in-Some.is v.out v.changed.holds) (stead_sorted spec x y c.args.instead s list t.pairs c.in-Some.is v.out v.changed.holds v.order)))
    c.exchange_pair.ensures.ok
