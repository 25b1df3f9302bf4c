use Rattle.std.proofs.Common.{IfOk, refl, ◌≡◌, ◌<◌, ◌-◌, suc, insert, Option, arith, subst, sym, ap, ◌∙◌}
use Rattle.mm_base.specs.declared.place.DiskLoc.{DiskLoc}
use Rattle.mm_base.specs.Places.{null}
use Rattle.mm_base.proofs.PlaceLaws.{place_same}
use Rattle.mm_bucket.specs.Pairs.{with_pair}
use Rattle.mm_bucket.specs.Rules.{children, AreAlike}
use Rattle.mm_btree.specs.Nodes.{Item, node_of}
use Rattle.mm_btree.specs.Order.{item_lt}
use Rattle.mm_btree.specs.Changes.{Up, AreThere, IsSettled, IsInserted}
use Rattle.mm_btree.proofs.Edits.{leaf_alike, leaf_kids, inner_alike, inner_kids, inner_put}
use Rattle.mm_btree.proofs.InsertCalls.{there_some, here_sorted, leaf_is_null, inner_is_place, child_found, child_there, leaf_done, above_there, none_done, some_done}
use Rattle.mm_btree.proofs.adding.+insert_below.Goals as goal

pub read-requires : goal.read-requires
read-requires g t c =
    let x : Item = record { key = c.args.key.now; rec = c.args.rec } in
    there_some c.args.spec.now (g.S.NodeStore.bucket_at c.args.store.now) c.args.at c.args.height x c.requires.stands

pub place_of-place-requires-clause-order : goal.place_of-place-requires-clause-order
place_of-place-requires-clause-order g t c =
    let x : Item = record { key = c.args.key.now; rec = c.args.rec } in
    (here_sorted c.args.spec.now (g.S.NodeStore.bucket_at c.args.store.now) c.args.at c.args.height x (node_of c.in_ok-bucket.bucket) c.requires.stands c.in_ok-bucket.ensures.bucket).0

pub place_of-place-requires-clause-lacking : goal.place_of-place-requires-clause-lacking
place_of-place-requires-clause-lacking g t c =
    let x : Item = record { key = c.args.key.now; rec = c.args.rec } in
    (here_sorted c.args.spec.now (g.S.NodeStore.bucket_at c.args.store.now) c.args.at c.args.height x (node_of c.in_ok-bucket.bucket) c.requires.stands c.in_ok-bucket.ensures.bucket).1

-- ---- a leaf

pub settle-requires-clause-there : goal.settle-requires-clause-there
settle-requires-clause-there g t c =
    let x : Item = record { key = c.args.key.now; rec = c.args.rec } in
    there_some c.args.spec.now (g.S.NodeStore.bucket_at c.args.store.now) c.args.at c.args.height x c.requires.stands

pub settle-requires-clause-alike : goal.settle-requires-clause-alike
settle-requires-clause-alike g t c =
    let x : Item = record { key = c.args.key.now; rec = c.args.rec } in
    let b = c.in_ok-bucket.bucket in
    let e = c.in_ok-bucket.ensures in
    let last = leaf_is_null c.args.spec.now (g.S.NodeStore.bucket_at c.args.store.now) c.args.at c.args.height x b c.requires.stands c.if-height-eq0.true e.bucket in
    subst (λ (p : DiskLoc). AreAlike (children (with_pair b c.place_of-place.result c.args.key.now c.args.rec p))) (place_same null _ refl refl) (leaf_alike b c.place_of-place.result c.args.key.now c.args.rec c.place_of-place.ensures.inside e.alike last)

pub settle-requires-clause-kids : goal.settle-requires-clause-kids
settle-requires-clause-kids g t c =
    let m = g.S.NodeStore.bucket_at c.args.store.now in
    let x : Item = record { key = c.args.key.now; rec = c.args.rec } in
    let b = c.in_ok-bucket.bucket in
    let e = c.in_ok-bucket.ensures in
    let last = leaf_is_null c.args.spec.now m c.args.at c.args.height x b c.requires.stands c.if-height-eq0.true e.bucket in
    subst (λ (p : DiskLoc). AreThere m (node_of (with_pair b c.place_of-place.result c.args.key.now c.args.rec p)).kids) (place_same null _ refl refl) (subst (AreThere m) (sym (leaf_kids b c.place_of-place.result c.args.key.now c.args.rec c.place_of-place.ensures.inside e.alike last)) (λ q h. absurd cc))

pub returns-then-height-eq0-clause-ok : goal.returns-then-height-eq0-clause-ok
returns-then-height-eq0-clause-ok g t c =
    let node = g.S.NodeStore.bucket_at in
    let b = c.in_ok-bucket.bucket in
    let e = c.in_ok-bucket.ensures in
    leaf_done c.args.spec.now (node c.args.store.now) (node c.settle.new.store) c.args.at c.args.height c.place_of-place.result c.args.key.now c.args.rec b c.settle.result
    c.requires.stands c.if-height-eq0.true e.bucket e.alike c.place_of-place.ensures.inside c.place_of-place.ensures.is
    (subst (λ (p : DiskLoc). IfOk c.settle.result (IsSettled (node c.args.store.now) (node c.settle.new.store) c.args.at (node_of (with_pair b c.place_of-place.result c.args.key.now c.args.rec p)))) (place_same _ null refl refl) c.settle.ensures.ok)

-- ---- above one

pub insert_below-requires : goal.insert_below-requires
insert_below-requires g t c κs within =
    let m = g.S.NodeStore.bucket_at c.args.store.now in
    let x : Item = record { key = c.args.key.now; rec = c.args.rec } in
    let b = c.in_ok-bucket.bucket in
    let e = c.in_ok-bucket.ensures in
    let high : 0 < c.args.height = omega arith in
    let found = child_found c.args.spec.now m c.args.at c.args.height x b c.place_of-place.result c.child-kid.result c.requires.stands high e.bucket c.place_of-place.ensures.inside c.child-kid.ensures in
    (omega arith, (within, (c.requires.key, child_there c.args.spec.now m c.args.at c.args.height c.place_of-place.result x c.child-kid.result (node_of b) c.requires.stands high e.bucket c.place_of-place.ensures.is.inside found)))

pub returns-in-None-clause-ok : goal.returns-in-None-clause-ok
returns-in-None-clause-ok g t c =
    let node = g.S.NodeStore.bucket_at in
    let m = node c.args.store.now in
    let n = node c.insert_below.new.store in
    let x : Item = record { key = c.args.key.now; rec = c.args.rec } in
    let b = c.in_ok-bucket.bucket in
    let e = c.in_ok-bucket.ensures in
    let i = c.place_of-place.result in
    let kid = c.child-kid.result in
    let high : 0 < c.args.height = omega arith in
    let found = child_found c.args.spec.now m c.args.at c.args.height x b i kid c.requires.stands high e.bucket c.place_of-place.ensures.inside c.child-kid.ensures in
    let below = subst (λ (r : Option Up). (up : DiskLoc) → IsInserted (item_lt c.args.spec.now) m n kid (c.args.height - 1) x up r) c.in-None.is c.in_ok-insert_below.ensures.ok in
    none_done c.args.spec.now m n c.args.at c.args.height i x kid (node_of b) high e.bucket c.place_of-place.ensures.is found below

pub settle-requires-in-Some-clause-there : goal.settle-requires-in-Some-clause-there
settle-requires-in-Some-clause-there g t c =
    let node = g.S.NodeStore.bucket_at in
    let m = node c.args.store.now in
    let n = node c.insert_below.new.store in
    let x : Item = record { key = c.args.key.now; rec = c.args.rec } in
    let b = c.in_ok-bucket.bucket in
    let e = c.in_ok-bucket.ensures in
    let i = c.place_of-place.result in
    let kid = c.child-kid.result in
    let high : 0 < c.args.height = omega arith in
    let found = child_found c.args.spec.now m c.args.at c.args.height x b i kid c.requires.stands high e.bucket c.place_of-place.ensures.inside c.child-kid.ensures in
    let below = subst (λ (r : Option Up). (up : DiskLoc) → IsInserted (item_lt c.args.spec.now) m n kid (c.args.height - 1) x up r) c.in-Some.is c.in_ok-insert_below.ensures.ok in
    (above_there c.args.spec.now m n c.args.at c.args.height i x kid (node_of b) c.in-Some.up c.requires.stands high e.bucket c.place_of-place.ensures.is found below).0

pub settle-requires-in-Some-clause-alike : goal.settle-requires-in-Some-clause-alike
settle-requires-in-Some-clause-alike g t c =
    let m = g.S.NodeStore.bucket_at c.args.store.now in
    let x : Item = record { key = c.args.key.now; rec = c.args.rec } in
    let b = c.in_ok-bucket.bucket in
    let e = c.in_ok-bucket.ensures in
    let high : 0 < c.args.height = omega arith in
    let next = inner_is_place c.args.spec.now m c.args.at c.args.height x b c.requires.stands high e.bucket in
    inner_alike b c.place_of-place.result c.key.result.now c.rec.result c.right.result c.place_of-place.ensures.inside e.alike next c.right.ensures.place

pub settle-requires-in-Some-clause-kids : goal.settle-requires-in-Some-clause-kids
settle-requires-in-Some-clause-kids g t c =
    let node = g.S.NodeStore.bucket_at in
    let m = node c.args.store.now in
    let n = node c.insert_below.new.store in
    let x : Item = record { key = c.args.key.now; rec = c.args.rec } in
    let b = c.in_ok-bucket.bucket in
    let e = c.in_ok-bucket.ensures in
    let i = c.place_of-place.result in
    let kid = c.child-kid.result in
    let high : 0 < c.args.height = omega arith in
    let next = inner_is_place c.args.spec.now m c.args.at c.args.height x b c.requires.stands high e.bucket in
    let found = child_found c.args.spec.now m c.args.at c.args.height x b i kid c.requires.stands high e.bucket c.place_of-place.ensures.inside c.child-kid.ensures in
    let below = subst (λ (r : Option Up). (up : DiskLoc) → IsInserted (item_lt c.args.spec.now) m n kid (c.args.height - 1) x up r) c.in-Some.is c.in_ok-insert_below.ensures.ok in
    let there = (above_there c.args.spec.now m n c.args.at c.args.height i x kid (node_of b) c.in-Some.up c.requires.stands high e.bucket c.place_of-place.ensures.is found below).1 in
    let kids = inner_kids b i c.key.result.now c.rec.result c.right.result c.place_of-place.ensures.inside e.alike next c.right.ensures.place
    ∙ ap (λ (z : DiskLoc). insert (node_of b).kids (suc i) z) c.right.ensures.is in
    subst (AreThere n) (sym kids) there

pub returns-in-Some-clause-ok : goal.returns-in-Some-clause-ok
returns-in-Some-clause-ok g t c =
    let node = g.S.NodeStore.bucket_at in
    let m = node c.args.store.now in
    let n = node c.insert_below.new.store in
    let x : Item = record { key = c.args.key.now; rec = c.args.rec } in
    let b = c.in_ok-bucket.bucket in
    let e = c.in_ok-bucket.ensures in
    let i = c.place_of-place.result in
    let kid = c.child-kid.result in
    let u = c.in-Some.up in
    let high : 0 < c.args.height = omega arith in
    let next = inner_is_place c.args.spec.now m c.args.at c.args.height x b c.requires.stands high e.bucket in
    let found = child_found c.args.spec.now m c.args.at c.args.height x b i kid c.requires.stands high e.bucket c.place_of-place.ensures.inside c.child-kid.ensures in
    let below = subst (λ (r : Option Up). (up : DiskLoc) → IsInserted (item_lt c.args.spec.now) m n kid (c.args.height - 1) x up r) c.in-Some.is c.in_ok-insert_below.ensures.ok in
    let pair : ◌≡◌ {A = Item} (record { key = c.key.result.now; rec = c.rec.result }) u.mid = λ i. record { key = c.key.ensures.is i; rec = c.rec.ensures i } in
    let put = inner_put b i c.key.result.now c.rec.result c.right.result c.place_of-place.ensures.inside e.alike next c.right.ensures.place
    ∙ (λ j. record (node_of b) { pairs = insert (node_of b).pairs i (pair j); kids = insert (node_of b).kids (suc i) (c.right.ensures.is j) }) in
    some_done c.args.spec.now m n (node c.settle-in-Some.new.store) c.args.at c.args.height i x kid (node_of b) (node_of (with_pair b i c.key.result.now c.rec.result c.right.result)) u c.settle-in-Some.result high e.bucket c.place_of-place.ensures.is found
    below put c.settle-in-Some.ensures.ok
