use Rattle.std.proofs.Common.{◌<◌, ◌≤◌, length, IsSome, refl, sym, subst, arith}
use Rattle.mm_btree.proofs.Exchanges.{removed_alike}
use Rattle.mm_btree.proofs.RemoveCalls.{out_of_leaf, out_above, out_kid, out_scene}
use Rattle.mm_btree.proofs.removing.take_out.Goals as goal

pub write_left-requires-clause-there : goal.write_left-requires-clause-there
write_left-requires-clause-there g c = subst IsSome (sym c.requires.bucket) refl

pub write_left-requires-clause-alike : goal.write_left-requires-clause-alike
write_left-requires-clause-alike g c = removed_alike c.args.bucket c.remove_at.new.self c.args.place c.requires.place c.requires.alike c.remove_at.ensures

pub returns-then-height-eq0-clause-ok : goal.returns-then-height-eq0-clause-ok
returns-then-height-eq0-clause-ok g c =
    let node = g.S.NodeStore.bucket_at in
    λ x t. out_of_leaf c.args.spec.now (node c.args.store.now) (node c.write_left.new.store) c.args.at c.args.height c.args.bucket c.remove_at.new.self c.args.place x c.in_ok-left.left c.if-height-eq0.true c.requires.bucket t c.remove_at.ensures
    c.in_ok-left.ensures.ok

pub take_last_below-requires : goal.take_last_below-requires
take_last_below-requires g c =
    let high : 0 < c.args.height = omega arith in
    let le : c.args.place ≤ length c.args.bucket.pairs = omega (arith, c.requires.place) in
    out_kid c.args.spec.now (g.S.NodeStore.bucket_at c.args.store.now) c.args.at c.child-kid.result c.args.height c.args.bucket c.args.place c.requires.stands high c.requires.bucket le c.child-kid.ensures

pub mend-requires-clause-above : goal.mend-requires-clause-above
mend-requires-clause-above g c =
    let node = g.S.NodeStore.bucket_at in
    let high : 0 < c.args.height = omega arith in
    let le : c.args.place ≤ length c.args.bucket.pairs = omega (arith, c.requires.place) in
    out_scene c.args.spec.now (node c.args.store.now) (node c.take_last_below.new.store) c.args.at c.child-kid.result c.args.height c.args.bucket c.args.place c.in_ok-last.last.pair c.in_ok-last.last.outcome
    c.requires.stands high c.requires.bucket le c.child-kid.ensures c.in_ok-last.ensures.ok

pub returns-clause-ok : goal.returns-clause-ok
returns-clause-ok g c =
    let node = g.S.NodeStore.bucket_at in
    let high : 0 < c.args.height = omega arith in
    λ x t. out_above c.args.spec.now (node c.args.store.now) (node c.take_last_below.new.store) (node c.mend.new.store) c.args.at c.child-kid.result c.args.height c.args.bucket c.args.place x c.in_ok-last.last.pair c.in_ok-last.last.outcome c.in_ok-outcome.outcome
    high c.requires.bucket t c.child-kid.ensures c.in_ok-last.ensures.ok c.in_ok-outcome.ensures.ok
