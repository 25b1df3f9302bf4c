use Rattle.std.proofs.Common.{Option, subst}
use Rattle.mm_base.specs.Places.{null}
use Rattle.mm_base.specs.declared.place.DiskLoc.{DiskLoc}
use Rattle.mm_btree.specs.Nodes.{Item}
use Rattle.mm_btree.specs.Order.{item_lt}
use Rattle.mm_btree.specs.Changes.{Up, IsInserted}
use Rattle.mm_btree.proofs.Ordered.{item_chains, told}
use Rattle.mm_btree.proofs.Inserting.{whole_none, whole_some, whole_there}
use Rattle.mm_btree.proofs.adding.insert_pair.Goals as goal

pub insert_below-requires-clause-stands : goal.insert_below-requires-clause-stands
insert_below-requires-clause-stands g c =
    let t = c.requires.tree in
    (null, t.0, t.1, t.2)

pub grow-requires-clause-there : goal.grow-requires-clause-there
grow-requires-clause-there g c =
    let node = g.S.NodeStore.bucket_at in
    let m = node c.args.store.now in
    let n = node c.insert_below.new.store in
    let x : Item = record { key = c.args.key.now; rec = c.args.rec } in
    let below = subst (λ (r : Option Up). (up : DiskLoc) → IsInserted (item_lt c.args.spec.now) m n c.args.root c.args.height x up r) c.in-Some.is c.in_ok-insert_below.ensures.ok in
    whole_there (item_lt c.args.spec.now) m n c.args.root c.args.height x c.in-Some.up c.requires.tree.0 (below null) c.requires.tree.1

pub returns-in-None-clause-ok : goal.returns-in-None-clause-ok
returns-in-None-clause-ok g c =
    let node = g.S.NodeStore.bucket_at in
    let m = node c.args.store.now in
    let n = node c.insert_below.new.store in
    let spec = c.args.spec.now in
    let x : Item = record { key = c.args.key.now; rec = c.args.rec } in
    let below = subst (λ (r : Option Up). (up : DiskLoc) → IsInserted (item_lt spec) m n c.args.root c.args.height x up r) c.in-None.is c.in_ok-insert_below.ensures.ok in
    λ s t out. whole_none (item_lt spec) (item_chains spec) m n c.args.root c.args.height x s (below null) t (told spec x s.pairs out)

pub returns-in_ok-place-in-Some-clause-ok : goal.returns-in_ok-place-in-Some-clause-ok
returns-in_ok-place-in-Some-clause-ok g c =
    let node = g.S.NodeStore.bucket_at in
    let m = node c.args.store.now in
    let n = node c.insert_below.new.store in
    let spec = c.args.spec.now in
    let x : Item = record { key = c.args.key.now; rec = c.args.rec } in
    let below = subst (λ (r : Option Up). (up : DiskLoc) → IsInserted (item_lt spec) m n c.args.root c.args.height x up r) c.in-Some.is c.in_ok-insert_below.ensures.ok in
    λ s t out. whole_some (item_lt spec) (item_chains spec) m n (node c.grow.new.store) c.args.root c.args.height x c.in_ok-place-in-Some.place c.in-Some.up s (below null) c.in_ok-place-in-Some.ensures.free c.in_ok-place-in-Some.ensures.same t (told spec x s.pairs out)

pub grow-requires-clause-root : goal.grow-requires-clause-root
grow-requires-clause-root g c = c.in_ok-insert_below.ensures.place
