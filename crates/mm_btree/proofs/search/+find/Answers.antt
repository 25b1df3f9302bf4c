use Rattle.std.proofs.Common.{◌<◌, ◌-◌, Option, arith, subst}
use Rattle.mm_base.specs.declared.place.DiskLoc.{DiskLoc}
use Rattle.mm_btree.specs.Nodes.{node_of}
use Rattle.mm_btree.specs.Order.{IsFirst}
use Rattle.mm_btree.proofs.Searched.{read_some, read_sorted, kid_found, kid_there, found_in_leaf, found_in_child, found_behind}
use Rattle.mm_btree.proofs.search.+find.Goals as goal

pub read-requires : goal.read-requires
read-requires g t c = read_some c.args.spec.now (g.S.NodeStore.bucket_at c.args.store.now) c.args.at c.args.height c.requires

pub first_not_less-place-requires : goal.first_not_less-place-requires
first_not_less-place-requires g t c = read_sorted c.args.spec.now (g.S.NodeStore.bucket_at c.args.store.now) c.args.at c.args.height (node_of c.in_ok-bucket.bucket) c.requires c.in_ok-bucket.ensures.bucket

pub equal_at-requires-clause-order : goal.equal_at-requires-clause-order
equal_at-requires-clause-order g t c = read_sorted c.args.spec.now (g.S.NodeStore.bucket_at c.args.store.now) c.args.at c.args.height (node_of c.in_ok-bucket.bucket) c.requires c.in_ok-bucket.ensures.bucket

pub equal_at-requires-in-None-clause-order : goal.equal_at-requires-in-None-clause-order
equal_at-requires-in-None-clause-order g t c = read_sorted c.args.spec.now (g.S.NodeStore.bucket_at c.args.store.now) c.args.at c.args.height (node_of c.in_ok-bucket.bucket) c.requires c.in_ok-bucket.ensures.bucket

pub returns-then-height-eq0 : goal.returns-then-height-eq0
returns-then-height-eq0 g t c =
    found_in_leaf c.args.spec.now c.args.key.now (g.S.NodeStore.bucket_at c.args.store.now) c.args.at c.args.height c.first_not_less-place.result (node_of c.in_ok-bucket.bucket) c.equal_at.result
    c.if-height-eq0.true c.in_ok-bucket.ensures.bucket c.first_not_less-place.ensures.is c.equal_at.ensures

pub find-requires : goal.find-requires
find-requires g t c κs within =
    let m = g.S.NodeStore.bucket_at c.args.store.now in
    let b = c.in_ok-bucket.bucket in
    let e = c.in_ok-bucket.ensures in
    let high : 0 < c.args.height = omega arith in
    let found = kid_found c.args.spec.now m c.args.at c.args.height b c.first_not_less-place.result c.child-kid.result c.requires high e.bucket c.first_not_less-place.ensures.inside c.child-kid.ensures in
    (omega arith, (within, kid_there c.args.spec.now m c.args.at c.args.height c.first_not_less-place.result c.child-kid.result (node_of b) c.requires high e.bucket c.first_not_less-place.ensures.is.inside found))

pub returns-in-Some : goal.returns-in-Some
returns-in-Some g t c =
    let m = g.S.NodeStore.bucket_at c.args.store.now in
    let b = c.in_ok-bucket.bucket in
    let e = c.in_ok-bucket.ensures in
    let high : 0 < c.args.height = omega arith in
    let kid = c.child-kid.result in
    let found = kid_found c.args.spec.now m c.args.at c.args.height b c.first_not_less-place.result kid c.requires high e.bucket c.first_not_less-place.ensures.inside c.child-kid.ensures in
    let below = subst (λ (r : Option DiskLoc). IsFirst m c.args.spec.now kid (c.args.height - 1) c.args.key.now r) c.in-Some.is c.in_ok-rec.ensures in
    found_in_child c.args.spec.now c.args.key.now m c.args.at c.args.height c.first_not_less-place.result kid c.in-Some.rec (node_of b) high e.bucket c.first_not_less-place.ensures.is found below

pub returns-in-None : goal.returns-in-None
returns-in-None g t c =
    let m = g.S.NodeStore.bucket_at c.args.store.now in
    let b = c.in_ok-bucket.bucket in
    let e = c.in_ok-bucket.ensures in
    let high : 0 < c.args.height = omega arith in
    let kid = c.child-kid.result in
    let found = kid_found c.args.spec.now m c.args.at c.args.height b c.first_not_less-place.result kid c.requires high e.bucket c.first_not_less-place.ensures.inside c.child-kid.ensures in
    let below = subst (λ (r : Option DiskLoc). IsFirst m c.args.spec.now kid (c.args.height - 1) c.args.key.now r) c.in-None.is c.in_ok-rec.ensures in
    found_behind c.args.spec.now c.args.key.now m c.args.at c.args.height c.first_not_less-place.result kid (node_of b) c.equal_at-in-None.result high e.bucket c.first_not_less-place.ensures.is found below c.equal_at-in-None.ensures
