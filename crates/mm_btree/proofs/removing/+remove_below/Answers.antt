use Rattle.std.proofs.Common.{◌-◌, ◌<◌, ◌≤◌, length, subst, arith}
use Rattle.std.proofs.lemmas.List.{length-map}
use Rattle.mm_btree.specs.Nodes.{Item, item_of, node_of}
use Rattle.mm_btree.specs.Removal.{IsGone}
use Rattle.mm_btree.proofs.Searched.{read_some, read_sorted}
use Rattle.mm_btree.proofs.RemoveCalls.{out_below, gap_kid, gap_scene, missing_above, missing_in_leaf}
use Rattle.mm_btree.proofs.removing.+remove_below.Goals as goal

pub read-requires : goal.read-requires
read-requires g t c = read_some c.args.spec.now (g.S.NodeStore.bucket_at c.args.store.now) c.args.at c.args.height c.requires.stands

pub look_for-requires-clause-order : goal.look_for-requires-clause-order
look_for-requires-clause-order g t c = read_sorted c.args.spec.now (g.S.NodeStore.bucket_at c.args.store.now) c.args.at c.args.height (node_of c.in_ok-bucket.bucket) c.requires.stands c.in_ok-bucket.ensures.bucket

pub take_out-requires-clause-bucket : goal.take_out-requires-clause-bucket
take_out-requires-clause-bucket g t c = c.in_ok-bucket.ensures.bucket

pub take_out-requires-clause-alike : goal.take_out-requires-clause-alike
take_out-requires-clause-alike g t c = c.in_ok-bucket.ensures.alike

pub take_out-requires-clause-place : goal.take_out-requires-clause-place
take_out-requires-clause-place g t c = omega (arith, c.in-Ok.ensures.there.inside, length-map c.in_ok-bucket.bucket.pairs item_of)

pub take_out-requires-clause-stands : goal.take_out-requires-clause-stands
take_out-requires-clause-stands g t c = c.requires.stands

pub returns-in_ok-removed-in-Ok-clause-ok : goal.returns-in_ok-removed-in-Ok-clause-ok
returns-in_ok-removed-in-Ok-clause-ok g t c =
    let x : Item = record { key = c.args.key.now; rec = c.args.rec } in
    c.in_ok-removed-in-Ok.ensures.ok x c.in-Ok.ensures.there

pub returns-then-height-eq0-clause-ok : goal.returns-then-height-eq0-clause-ok
returns-then-height-eq0-clause-ok g t c =
    let x : Item = record { key = c.args.key.now; rec = c.args.rec } in
    missing_in_leaf c.args.spec.now (g.S.NodeStore.bucket_at c.args.store.now) c.args.at c.args.height c.in_ok-bucket.bucket c.in-Err.place x c.if-height-eq0.true c.in_ok-bucket.ensures.bucket c.in-Err.ensures.gap

pub child-kid-requires : goal.child-kid-requires
child-kid-requires g t c = omega (arith, c.in-Err.ensures.gap.inside, length-map c.in_ok-bucket.bucket.pairs item_of)

pub remove_below-requires : goal.remove_below-requires
remove_below-requires g t c κs within =
    let high : 0 < c.args.height = omega arith in
    let b = c.in_ok-bucket.bucket in
    let le : c.in-Err.place ≤ length b.pairs = omega (arith, c.in-Err.ensures.gap.inside, length-map b.pairs item_of) in
    (omega arith, (within, (c.requires.key, gap_kid c.args.spec.now (g.S.NodeStore.bucket_at c.args.store.now) c.args.at c.child-kid.result c.args.height b c.in-Err.place c.requires.stands high c.in_ok-bucket.ensures.bucket le c.child-kid.ensures)))

pub mend-requires-clause-alike : goal.mend-requires-clause-alike
mend-requires-clause-alike g t c = c.in_ok-bucket.ensures.alike

pub mend-requires-clause-above : goal.mend-requires-clause-above
mend-requires-clause-above g t c =
    let node = g.S.NodeStore.bucket_at in
    let m = node c.args.store.now in
    let n = node c.remove_below.new.store in
    let x : Item = record { key = c.args.key.now; rec = c.args.rec } in
    let high : 0 < c.args.height = omega arith in
    let b = c.in_ok-bucket.bucket in
    let i = c.in-Err.place in
    let le : i ≤ length b.pairs = omega (arith, c.in-Err.ensures.gap.inside, length-map b.pairs item_of) in
    let kid = c.child-kid.result in
    let out = subst (IsGone c.args.spec.now m n kid (c.args.height - 1) x) c.in-Some.is c.in_ok-remove_below-in-Err.ensures.ok in
    gap_scene c.args.spec.now m n c.args.at kid c.args.height b i x c.in-Some.below.instead c.in-Some.below.outcome c.requires.stands high c.in_ok-bucket.ensures.bucket le c.child-kid.ensures out

pub returns-in-None-clause-ok : goal.returns-in-None-clause-ok
returns-in-None-clause-ok g t c =
    let node = g.S.NodeStore.bucket_at in
    let m = node c.args.store.now in
    let n = node c.remove_below.new.store in
    let x : Item = record { key = c.args.key.now; rec = c.args.rec } in
    let high : 0 < c.args.height = omega arith in
    let kid = c.child-kid.result in
    let missing = subst (IsGone c.args.spec.now m n kid (c.args.height - 1) x) c.in-None.is c.in_ok-remove_below-in-Err.ensures.ok in
    missing_above c.args.spec.now m c.args.at kid c.args.height c.in_ok-bucket.bucket c.in-Err.place x high c.in_ok-bucket.ensures.bucket c.in-Err.ensures.gap c.child-kid.ensures missing

pub returns-in-None-clause-kept : goal.returns-in-None-clause-kept
returns-in-None-clause-kept g t c = λ e. c.in_ok-remove_below-in-Err.ensures.kept c.in-None.is

pub returns-in_ok-outcome-in-Some-clause-ok : goal.returns-in_ok-outcome-in-Some-clause-ok
returns-in_ok-outcome-in-Some-clause-ok g t c =
    let node = g.S.NodeStore.bucket_at in
    let m = node c.args.store.now in
    let n = node c.remove_below.new.store in
    let x : Item = record { key = c.args.key.now; rec = c.args.rec } in
    let high : 0 < c.args.height = omega arith in
    let kid = c.child-kid.result in
    let out = subst (IsGone c.args.spec.now m n kid (c.args.height - 1) x) c.in-Some.is c.in_ok-remove_below-in-Err.ensures.ok in
    out_below c.args.spec.now m n (node c.mend.new.store) c.args.at kid c.args.height c.in_ok-bucket.bucket c.in-Err.place x c.in-Some.below.instead c.in-Some.below.outcome c.in_ok-outcome-in-Some.outcome high c.in_ok-bucket.ensures.bucket
    c.in-Err.ensures.gap c.child-kid.ensures out c.in_ok-outcome-in-Some.ensures.ok
