use Rattle.std.proofs.Common.{Option, Some, None, refl, subst}
use Rattle.mm_base.specs.Places.{null}
use Rattle.mm_base.specs.declared.place.DiskLoc.{DiskLoc}
use Rattle.mm_btree.specs.Nodes.{Item}
use Rattle.mm_btree.specs.Changes.{Up}
use Rattle.mm_btree.specs.Order.{item_lt}
use Rattle.mm_btree.specs.Removal.{exchanged, IsExchanged}
use Rattle.mm_btree.specs.declared.outcome.Outcome.TheVariants.{Whole, Parted}
use Rattle.mm_btree.proofs.RootLeft.{root_whole, root_there, root_parted}
use Rattle.mm_btree.proofs.WholeCalls.{root_exchanged, higher}
use Rattle.mm_btree.proofs.whole.exchange_pair.Goals as goal

pub exchange_below-requires-clause-stands : goal.exchange_below-requires-clause-stands
exchange_below-requires-clause-stands g c = let w = c.requires.tree in (null, w.0, w.1, w.2)

pub grow-requires-clause-root : goal.grow-requires-clause-root
grow-requires-clause-root g c = c.in_ok-exchange_below.ensures.place

pub grow-requires-clause-there : goal.grow-requires-clause-there
grow-requires-clause-there g c =
    let node = g.S.NodeStore.bucket_at in
    let m = node c.args.store.now in
    let n = node c.exchange_below.new.store in
    let spec = c.args.spec.now in
    let x : Item = record { key = c.args.key.now; rec = c.args.rec } in
    let y = c.args.new.now in
    let root = c.args.root.place in
    let h = c.args.root.height in
    let u = c.in-Some.up in
    let w = c.requires.tree in
    let below = subst (λ (r : Option Up). (up : DiskLoc) → IsExchanged spec m n root h x y up r) c.in-Some.is c.in_ok-exchange_below.ensures.ok in
    root_there m n root h w.0 (exchanged spec x y w.0.pairs) u (root_exchanged spec m n root h w.0 x y (Some u) (Parted u) w.1 w.2 refl (λ e. absurd cc) below)

pub returns-in-None-clause-ok : goal.returns-in-None-clause-ok
returns-in-None-clause-ok g c =
    let node = g.S.NodeStore.bucket_at in
    let m = node c.args.store.now in
    let n = node c.exchange_below.new.store in
    let spec = c.args.spec.now in
    let x : Item = record { key = c.args.key.now; rec = c.args.rec } in
    let y = c.args.new.now in
    let root = c.args.root.place in
    let h = c.args.root.height in
    let below = subst (λ (r : Option Up). (up : DiskLoc) → IsExchanged spec m n root h x y up r) c.in-None.is c.in_ok-exchange_below.ensures.ok in
    λ s t there so. root_whole (item_lt spec) m n root h s (exchanged spec x y s.pairs) (root_exchanged spec m n root h s x y None Whole t there refl (λ e. absurd cc) below) so

pub returns-in_ok-place-in-Some-clause-ok : goal.returns-in_ok-place-in-Some-clause-ok
returns-in_ok-place-in-Some-clause-ok g c =
    let node = g.S.NodeStore.bucket_at in
    let m = node c.args.store.now in
    let n = node c.exchange_below.new.store in
    let o = node c.grow.new.store in
    let spec = c.args.spec.now in
    let x : Item = record { key = c.args.key.now; rec = c.args.rec } in
    let y = c.args.new.now in
    let root = c.args.root.place in
    let h = c.args.root.height in
    let u = c.in-Some.up in
    let p = c.in_ok-place-in-Some.place in
    let below = subst (λ (r : Option Up). (up : DiskLoc) → IsExchanged spec m n root h x y up r) c.in-Some.is c.in_ok-exchange_below.ensures.ok in
    λ s t there so. higher (item_lt spec) m o p h s (exchanged spec x y s.pairs)
    (root_parted (item_lt spec) m n o root p h s (exchanged spec x y s.pairs) u (root_exchanged spec m n root h s x y (Some u) (Parted u) t there refl (λ e. absurd cc) below) so c.in_ok-place-in-Some.ensures.free c.in_ok-place-in-Some.ensures.same)
