use Rattle.std.proofs.Common.{◌≡◌, ◌-◌, ◌<◌, ◌≤◌, suc, length, insert, Option, sym, ap, ◌∙◌, subst, arith}
use Rattle.std.proofs.lemmas.List.{length-map}
use Rattle.std.proofs.lemmas.Result.{IfOk-weaker}
use Rattle.mm_base.specs.declared.place.DiskLoc.{DiskLoc}
use Rattle.mm_bucket.specs.Pairs.{with_pair}
use Rattle.mm_btree.specs.Nodes.{Item, Node, item_of, node_of}
use Rattle.mm_btree.specs.Changes.{Up, AreThere, IsSettled}
use Rattle.mm_btree.specs.Removal.{with_item, IsExchanged}
use Rattle.mm_btree.proofs.Edits.{inner_alike, inner_kids, inner_put}
use Rattle.mm_btree.proofs.Searched.{read_some, read_sorted}
use Rattle.mm_btree.proofs.Ranged.{inner_next}
use Rattle.mm_btree.proofs.SteadCalls.{stead_here, stead_kid, stead_none, stead_some, stead_there, stead_missing, read_kids}
use Rattle.mm_btree.proofs.exchanging.+exchange_below.Goals as goal

pub read-requires : goal.read-requires
read-requires g t c = let s = c.requires.stands in read_some c.args.spec.now (g.S.NodeStore.bucket_at c.args.store.now) c.args.at c.args.height (s.0, s.1, s.2)

pub look_for-requires-clause-order : goal.look_for-requires-clause-order
look_for-requires-clause-order g t c = let s = c.requires.stands in read_sorted c.args.spec.now (g.S.NodeStore.bucket_at c.args.store.now) c.args.at c.args.height (node_of c.in_ok-bucket.bucket) (s.0, s.1, s.2) c.in_ok-bucket.ensures.bucket

pub exchange-requires-clause-there : goal.exchange-requires-clause-there
exchange-requires-clause-there g t c = let s = c.requires.stands in read_some c.args.spec.now (g.S.NodeStore.bucket_at c.args.store.now) c.args.at c.args.height (s.0, s.1, s.2)

pub exchange-requires-clause-place : goal.exchange-requires-clause-place
exchange-requires-clause-place g t c = omega (arith, c.in-Ok.ensures.there.inside, length-map c.in_ok-bucket.bucket.pairs item_of)

pub exchange-requires-clause-alike : goal.exchange-requires-clause-alike
exchange-requires-clause-alike g t c = c.in_ok-bucket.ensures.alike

pub exchange-requires-clause-kids : goal.exchange-requires-clause-kids
exchange-requires-clause-kids g t c = let s = c.requires.stands in read_kids c.args.spec.now (g.S.NodeStore.bucket_at c.args.store.now) c.args.at c.args.height (node_of c.in_ok-bucket.bucket) (s.0, s.1, s.2) c.in_ok-bucket.ensures.bucket

pub returns-in-Ok-clause-ok : goal.returns-in-Ok-clause-ok
returns-in-Ok-clause-ok g t c =
    let node = g.S.NodeStore.bucket_at in
    let m = node c.args.store.now in
    let n = node c.exchange.new.store in
    let spec = c.args.spec.now in
    let x : Item = record { key = c.args.key.now; rec = c.args.rec } in
    let y = c.args.new.now in
    let b = c.in_ok-bucket.bucket in
    let i = c.in-Ok.place in
    IfOk-weaker c.exchange.result (IsSettled m n c.args.at (with_item (node_of b) i y)) (λ r. (up : DiskLoc) → IsExchanged spec m n c.args.at c.args.height x y up r)
    (λ r s up. stead_here spec m n c.args.at c.args.height b i x y r up c.in_ok-bucket.ensures.bucket c.in-Ok.ensures.there s) c.exchange.ensures.ok

pub returns-then-height-eq0-clause-ok : goal.returns-then-height-eq0-clause-ok
returns-then-height-eq0-clause-ok g t c =
    let x : Item = record { key = c.args.key.now; rec = c.args.rec } in
    λ up. stead_missing c.args.spec.now (g.S.NodeStore.bucket_at c.args.store.now) c.args.at c.args.height c.in_ok-bucket.bucket c.in-Err.place x c.args.new.now up c.if-height-eq0.true c.in_ok-bucket.ensures.bucket c.in-Err.ensures.gap

pub child-kid-requires : goal.child-kid-requires
child-kid-requires g t c = omega (arith, c.in-Err.ensures.gap.inside, length-map c.in_ok-bucket.bucket.pairs item_of)

pub exchange_below-requires : goal.exchange_below-requires
exchange_below-requires g t c κs within =
    let x : Item = record { key = c.args.key.now; rec = c.args.rec } in
    let high : 0 < c.args.height = omega arith in
    (omega arith, (within, (c.requires.key, stead_kid c.args.spec.now (g.S.NodeStore.bucket_at c.args.store.now) c.args.at c.child-kid.result c.args.height c.in_ok-bucket.bucket c.in-Err.place x c.requires.stands high c.in_ok-bucket.ensures.bucket c.in-Err.ensures.gap c.child-kid.ensures)))

pub settle-requires-clause-there : goal.settle-requires-clause-there
settle-requires-clause-there g t c =
    let node = g.S.NodeStore.bucket_at in
    let m = node c.args.store.now in
    let n = node c.exchange_below.new.store in
    let spec = c.args.spec.now in
    let x : Item = record { key = c.args.key.now; rec = c.args.rec } in
    let y = c.args.new.now in
    let kid = c.child-kid.result in
    let high : 0 < c.args.height = omega arith in
    let below = subst (λ (r : Option Up). (up : DiskLoc) → IsExchanged spec m n kid (c.args.height - 1) x y up r) c.in-Some.is c.in_ok-exchange_below-in-Err.ensures.ok in
    (stead_there spec m n c.args.at kid c.args.height c.in_ok-bucket.bucket c.in-Err.place x y c.in-Some.up c.requires.stands high c.in_ok-bucket.ensures.bucket c.in-Err.ensures.gap c.child-kid.ensures below).0

pub settle-requires-clause-place : goal.settle-requires-clause-place
settle-requires-clause-place g t c = omega (arith, c.in-Err.ensures.gap.inside, length-map c.in_ok-bucket.bucket.pairs item_of)

pub settle-requires-clause-alike : goal.settle-requires-clause-alike
settle-requires-clause-alike g t c =
    let s = c.requires.stands in
    let b = c.in_ok-bucket.bucket in
    let high : 0 < c.args.height = omega arith in
    let le : c.in-Err.place ≤ length b.pairs = omega (arith, c.in-Err.ensures.gap.inside, length-map b.pairs item_of) in
    let next = inner_next c.args.spec.now (g.S.NodeStore.bucket_at c.args.store.now) c.args.at c.args.height b (s.0, s.1, s.2) high c.in_ok-bucket.ensures.bucket in
    inner_alike b c.in-Err.place c.key.result.now c.rec.result c.right.result le c.in_ok-bucket.ensures.alike next c.right.ensures.place

pub settle-requires-clause-kids : goal.settle-requires-clause-kids
settle-requires-clause-kids g t c =
    let node = g.S.NodeStore.bucket_at in
    let m = node c.args.store.now in
    let n = node c.exchange_below.new.store in
    let spec = c.args.spec.now in
    let x : Item = record { key = c.args.key.now; rec = c.args.rec } in
    let y = c.args.new.now in
    let s = c.requires.stands in
    let b = c.in_ok-bucket.bucket in
    let i = c.in-Err.place in
    let kid = c.child-kid.result in
    let high : 0 < c.args.height = omega arith in
    let le : i ≤ length b.pairs = omega (arith, c.in-Err.ensures.gap.inside, length-map b.pairs item_of) in
    let next = inner_next spec m c.args.at c.args.height b (s.0, s.1, s.2) high c.in_ok-bucket.ensures.bucket in
    let below = subst (λ (r : Option Up). (up : DiskLoc) → IsExchanged spec m n kid (c.args.height - 1) x y up r) c.in-Some.is c.in_ok-exchange_below-in-Err.ensures.ok in
    let there = (stead_there spec m n c.args.at kid c.args.height b i x y c.in-Some.up s high c.in_ok-bucket.ensures.bucket c.in-Err.ensures.gap c.child-kid.ensures below).1 in
    let kids = inner_kids b i c.key.result.now c.rec.result c.right.result le c.in_ok-bucket.ensures.alike next c.right.ensures.place
    ∙ ap (λ (z : DiskLoc). insert (node_of b).kids (suc i) z) c.right.ensures.is in
    subst (AreThere n) (sym kids) there

pub returns-in-None-clause-ok : goal.returns-in-None-clause-ok
returns-in-None-clause-ok g t c =
    let node = g.S.NodeStore.bucket_at in
    let m = node c.args.store.now in
    let n = node c.exchange_below.new.store in
    let spec = c.args.spec.now in
    let x : Item = record { key = c.args.key.now; rec = c.args.rec } in
    let y = c.args.new.now in
    let kid = c.child-kid.result in
    let high : 0 < c.args.height = omega arith in
    let below = subst (λ (r : Option Up). (up : DiskLoc) → IsExchanged spec m n kid (c.args.height - 1) x y up r) c.in-None.is c.in_ok-exchange_below-in-Err.ensures.ok in
    stead_none spec m n c.args.at kid c.args.height c.in_ok-bucket.bucket c.in-Err.place x y high c.in_ok-bucket.ensures.bucket c.in-Err.ensures.gap c.child-kid.ensures below

pub returns-in-Some-clause-ok : goal.returns-in-Some-clause-ok
returns-in-Some-clause-ok g t c =
    let node = g.S.NodeStore.bucket_at in
    let m = node c.args.store.now in
    let n = node c.exchange_below.new.store in
    let n2 = node c.settle.new.store in
    let spec = c.args.spec.now in
    let x : Item = record { key = c.args.key.now; rec = c.args.rec } in
    let y = c.args.new.now in
    let s = c.requires.stands in
    let b = c.in_ok-bucket.bucket in
    let i = c.in-Err.place in
    let kid = c.child-kid.result in
    let u = c.in-Some.up in
    let high : 0 < c.args.height = omega arith in
    let le : i ≤ length b.pairs = omega (arith, c.in-Err.ensures.gap.inside, length-map b.pairs item_of) in
    let next = inner_next spec m c.args.at c.args.height b (s.0, s.1, s.2) high c.in_ok-bucket.ensures.bucket in
    let below = subst (λ (r : Option Up). (up : DiskLoc) → IsExchanged spec m n kid (c.args.height - 1) x y up r) c.in-Some.is c.in_ok-exchange_below-in-Err.ensures.ok in
    let pair : ◌≡◌ {A = Item} (record { key = c.key.result.now; rec = c.rec.result }) u.mid = λ j. record { key = c.key.ensures.is j; rec = c.rec.ensures j } in
    let put = inner_put b i c.key.result.now c.rec.result c.right.result le c.in_ok-bucket.ensures.alike next c.right.ensures.place
    ∙ (λ j. record (node_of b) { pairs = insert (node_of b).pairs i (pair j); kids = insert (node_of b).kids (suc i) (c.right.ensures.is j) }) in
    IfOk-weaker c.settle.result (IsSettled n n2 c.args.at (node_of (with_pair b i c.key.result.now c.rec.result c.right.result))) (λ r. (up : DiskLoc) → IsExchanged spec m n2 c.args.at c.args.height x y up r)
    (λ r w. stead_some spec m n n2 c.args.at kid c.args.height b i x y u r high c.in_ok-bucket.ensures.bucket c.in-Err.ensures.gap c.child-kid.ensures below (subst (λ (z : Node). IsSettled n n2 c.args.at z r) put w))
    c.settle.ensures.ok
