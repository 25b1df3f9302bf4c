use Rattle.std.proofs.Common.{◌≡◌, arith}
use Rattle.std.proofs.lemmas.Result.{IfOk-weaker}
use Rattle.mm_bucket.specs.Pairs.{pair_at}
use Rattle.mm_btree.specs.Nodes.{Item, item_of, node_of}
use Rattle.mm_btree.specs.Removal.{IsWritten, after_join, Scene, IsAbove, IsMended, list_above}
use Rattle.mm_btree.specs.declared.outcome.Outcome.TheVariants.{Thin}
use Rattle.mm_btree.proofs.Removals.{waits_there, waits_kids}
use Rattle.mm_btree.proofs.MendCalls.{above_some, above_next, first_two, first_waits, mended_at}
use Rattle.mm_btree.proofs.mending.mend_first.Goals as goal

pub child-left-requires : goal.child-left-requires
child-left-requires g c = omega arith

pub child-right-requires : goal.child-right-requires
child-right-requires g c = let w = c.requires.above in above_some w.0 (g.S.NodeStore.bucket_at c.args.store.now) c.args.at c.args.bucket 0 Thin w.1

pub key-requires : goal.key-requires
key-requires g c = let w = c.requires.above in above_some w.0 (g.S.NodeStore.bucket_at c.args.store.now) c.args.at c.args.bucket 0 Thin w.1

pub rec-requires : goal.rec-requires
rec-requires g c = let w = c.requires.above in above_some w.0 (g.S.NodeStore.bucket_at c.args.store.now) c.args.at c.args.bucket 0 Thin w.1

pub join_before-requires-clause-two : goal.join_before-requires-clause-two
join_before-requires-clause-two g c =
    let w = c.requires.above in
    first_two w.0 (g.S.NodeStore.bucket_at c.args.store.now) c.args.at c.args.bucket c.child-left.result c.child-right.result w.1 c.child-left.ensures c.child-right.ensures

pub after_join-requires-clause-there : goal.after_join-requires-clause-there
after_join-requires-clause-there g c =
    let node = g.S.NodeStore.bucket_at in
    let n = node c.args.store.now in
    let w = c.requires.above in
    let y : Item = record { key = c.key.result.now; rec = c.rec.result } in
    let mid : ◌≡◌ {A = Item} y (item_of (pair_at c.args.bucket.pairs 0)) = λ j. record { key = c.key.ensures.is j; rec = c.rec.ensures j } in
    let k = first_waits w.0 n (node c.join_before.new.store) c.args.at c.args.bucket c.child-left.result c.child-right.result y c.in_ok-joined.joined w.1 c.child-left.ensures c.child-right.ensures mid c.in_ok-joined.ensures.ok in
    waits_there w.0 n (node c.join_before.new.store) c.args.at (node_of c.args.bucket) 0 0 c.in_ok-joined.joined Thin (list_above w.0.ps w.0.cs 0 w.0.mine) w.1 k

pub after_join-requires-clause-place : goal.after_join-requires-clause-place
after_join-requires-clause-place g c = let w = c.requires.above in above_some w.0 (g.S.NodeStore.bucket_at c.args.store.now) c.args.at c.args.bucket 0 Thin w.1

pub after_join-requires-clause-inner : goal.after_join-requires-clause-inner
after_join-requires-clause-inner g c = let w = c.requires.above in above_next w.0 (g.S.NodeStore.bucket_at c.args.store.now) c.args.at c.args.bucket 0 Thin w.1

pub after_join-requires-clause-kids : goal.after_join-requires-clause-kids
after_join-requires-clause-kids g c =
    let node = g.S.NodeStore.bucket_at in
    let n = node c.args.store.now in
    let w = c.requires.above in
    let y : Item = record { key = c.key.result.now; rec = c.rec.result } in
    let mid : ◌≡◌ {A = Item} y (item_of (pair_at c.args.bucket.pairs 0)) = λ j. record { key = c.key.ensures.is j; rec = c.rec.ensures j } in
    let k = first_waits w.0 n (node c.join_before.new.store) c.args.at c.args.bucket c.child-left.result c.child-right.result y c.in_ok-joined.joined w.1 c.child-left.ensures c.child-right.ensures mid c.in_ok-joined.ensures.ok in
    λ z e. waits_kids w.0 (node c.join_before.new.store) (node_of c.args.bucket) 0 c.in_ok-joined.joined z (list_above w.0.ps w.0.cs 0 w.0.mine) e k

pub returns-clause-ok : goal.returns-clause-ok
returns-clause-ok g c =
    let node = g.S.NodeStore.bucket_at in
    let n = node c.args.store.now in
    let o = node c.join_before.new.store in
    let o2 = node c.after_join.new.store in
    let b = c.args.bucket in
    let y : Item = record { key = c.key.result.now; rec = c.rec.result } in
    let mid : ◌≡◌ {A = Item} y (item_of (pair_at b.pairs 0)) = λ j. record { key = c.key.ensures.is j; rec = c.rec.ensures j } in
    let r = c.in_ok-joined.joined in
    IfOk-weaker c.after_join.result (IsWritten o o2 c.args.at (after_join (node_of b) 0 r)) (λ out. (w : Scene) → IsAbove w n c.args.at (node_of b) 0 Thin → IsMended w o2 0 out)
    (λ out s w v. mended_at w n o o2 c.args.at b 0 0 r out v (first_waits w n o c.args.at b c.child-left.result c.child-right.result y r v c.child-left.ensures c.child-right.ensures mid c.in_ok-joined.ensures.ok) s)
    c.after_join.ensures.ok
