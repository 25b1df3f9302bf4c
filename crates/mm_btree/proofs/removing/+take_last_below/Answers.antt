use Rattle.std.proofs.Common.{◌≡◌, ◌+◌, ◌-◌, ◌<◌, ◌≤◌, length, arith}
use Rattle.mm_btree.proofs.Exchanges.{removed_alike}
use Rattle.mm_btree.proofs.RemoveCalls.{below_some, below_pair, last_of_leaf, last_above, last_kid, last_scene}
use Rattle.mm_btree.proofs.removing.+take_last_below.Goals as goal

pub read-requires : goal.read-requires
read-requires g t c = below_some (g.S.NodeStore.bucket_at c.args.store.now) c.args.at c.args.height c.requires

-- ---- a leaf

pub of-requires : goal.of-requires
of-requires g t c =
    let some = below_pair (g.S.NodeStore.bucket_at c.args.store.now) c.args.at c.args.height c.in_ok-bucket.bucket c.requires c.in_ok-bucket.ensures.bucket in
    omega (arith, some, c.len-pairs.ensures.len)

pub remove_at-requires : goal.remove_at-requires
remove_at-requires g t c =
    let some = below_pair (g.S.NodeStore.bucket_at c.args.store.now) c.args.at c.args.height c.in_ok-bucket.bucket c.requires c.in_ok-bucket.ensures.bucket in
    omega (arith, some, c.len-pairs.ensures.len)

pub write_left-requires-clause-there : goal.write_left-requires-clause-there
write_left-requires-clause-there g t c = below_some (g.S.NodeStore.bucket_at c.args.store.now) c.args.at c.args.height c.requires

pub write_left-requires-clause-alike : goal.write_left-requires-clause-alike
write_left-requires-clause-alike g t c =
    let b = c.in_ok-bucket.bucket in
    let some = below_pair (g.S.NodeStore.bucket_at c.args.store.now) c.args.at c.args.height b c.requires c.in_ok-bucket.ensures.bucket in
    let lt : c.len-pairs.result - 1 < length b.pairs = omega (arith, some, c.len-pairs.ensures.len) in
    removed_alike b c.remove_at.new.self (c.len-pairs.result - 1) lt c.in_ok-bucket.ensures.alike c.remove_at.ensures

pub returns-then-height-eq0-clause-ok : goal.returns-then-height-eq0-clause-ok
returns-then-height-eq0-clause-ok g t c =
    let node = g.S.NodeStore.bucket_at in
    let m = node c.args.store.now in
    let b = c.in_ok-bucket.bucket in
    let some = below_pair m c.args.at c.args.height b c.requires c.in_ok-bucket.ensures.bucket in
    let i = c.len-pairs.result - 1 in
    let last : i + 1 ≡ length b.pairs = omega (arith, some, c.len-pairs.ensures.len) in
    last_of_leaf m (node c.write_left.new.store) c.args.at c.args.height b c.remove_at.new.self i c.in_ok-pair.pair c.in_ok-left.left c.if-height-eq0.true c.in_ok-bucket.ensures.bucket last c.remove_at.ensures c.in_ok-pair.ensures
    c.in_ok-left.ensures.ok

-- ---- above one

pub take_last_below-requires : goal.take_last_below-requires
take_last_below-requires g t c κs within =
    let high : 0 < c.args.height = omega arith in
    let le : c.len-pairs.result ≤ length c.in_ok-bucket.bucket.pairs = omega (arith, c.len-pairs.ensures.len) in
    (omega arith, (within, last_kid (g.S.NodeStore.bucket_at c.args.store.now) c.args.at c.child-kid.result c.args.height c.in_ok-bucket.bucket c.len-pairs.result c.requires high c.in_ok-bucket.ensures.bucket le c.child-kid.ensures))

pub mend-requires-clause-above : goal.mend-requires-clause-above
mend-requires-clause-above g t c =
    let node = g.S.NodeStore.bucket_at in
    let high : 0 < c.args.height = omega arith in
    let le : c.len-pairs.result ≤ length c.in_ok-bucket.bucket.pairs = omega (arith, c.len-pairs.ensures.len) in
    last_scene (node c.args.store.now) (node c.take_last_below.new.store) c.args.at c.child-kid.result c.args.height c.in_ok-bucket.bucket c.len-pairs.result c.in_ok-below.below.pair c.in_ok-below.below.outcome
    c.requires high c.in_ok-bucket.ensures.bucket le c.child-kid.ensures c.in_ok-below.ensures.ok

pub returns-clause-ok : goal.returns-clause-ok
returns-clause-ok g t c =
    let node = g.S.NodeStore.bucket_at in
    let high : 0 < c.args.height = omega arith in
    last_above (node c.args.store.now) (node c.take_last_below.new.store) (node c.mend.new.store) c.args.at c.child-kid.result c.args.height c.in_ok-bucket.bucket c.len-pairs.result c.in_ok-below.below.pair c.in_ok-below.below.outcome c.in_ok-outcome.outcome
    high c.in_ok-bucket.ensures.bucket c.len-pairs.ensures.len c.child-kid.ensures c.in_ok-below.ensures.ok c.in_ok-outcome.ensures.ok
