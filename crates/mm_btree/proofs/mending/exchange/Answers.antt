use Rattle.std.proofs.Common.{◌≡◌, ◌≤◌, length, sym, ap, ◌∙◌, subst}
use Rattle.std.proofs.lemmas.Result.{IfOk-weaker}
use Rattle.mm_bucket.specs.Pairs.{Contents, child_at, with_pair}
use Rattle.mm_bucket.specs.Rules.{children, AreAlike}
use Rattle.mm_btree.specs.Nodes.{Item, Node, node_of}
use Rattle.mm_btree.specs.Changes.{AreThere, IsSettled}
use Rattle.mm_btree.specs.Removal.{with_item}
use Rattle.mm_btree.proofs.Exchanges.{opened_is, opened_inside, put_is, opened_len, exchanged_alike, exchanged_node}
use Rattle.mm_btree.proofs.mending.exchange.Goals as goal

pub set_child-requires : goal.set_child-requires
set_child-requires g c = opened_inside c.args.bucket c.remove_at.new.self c.args.place c.requires.place c.remove_at.ensures

pub settle-requires-clause-place : goal.settle-requires-clause-place
settle-requires-clause-place g c =
    subst (λ (z : Contents). c.args.place ≤ length z.pairs) (sym (opened_is c.args.bucket c.remove_at.new.self c.set_child.new.self c.args.place c.child-left.result c.remove_at.ensures c.set_child.ensures c.child-left.ensures))
    (opened_len c.args.bucket c.args.place (child_at c.args.bucket c.args.place) c.requires.place)

pub settle-requires-clause-alike : goal.settle-requires-clause-alike
settle-requires-clause-alike g c =
    let same = put_is c.args.bucket c.remove_at.new.self c.set_child.new.self c.args.place c.child-left.result c.child-after.result c.key.result.now c.rec.result c.remove_at.ensures c.set_child.ensures c.child-left.ensures c.child-after.ensures in
    subst (λ (z : Contents). AreAlike (children z)) (sym same) (exchanged_alike c.args.bucket c.args.place c.key.result.now c.rec.result c.requires.place c.requires.alike)

pub settle-requires-clause-kids : goal.settle-requires-clause-kids
settle-requires-clause-kids g c =
    let m = g.S.NodeStore.bucket_at c.args.store.now in
    let same = put_is c.args.bucket c.remove_at.new.self c.set_child.new.self c.args.place c.child-left.result c.child-after.result c.key.result.now c.rec.result c.remove_at.ensures c.set_child.ensures c.child-left.ensures c.child-after.ensures in
    subst (λ (z : Node). AreThere m z.kids) (sym (ap node_of same ∙ exchanged_node c.args.bucket c.args.place c.key.result.now c.rec.result c.requires.place)) c.requires.kids

pub returns-clause-ok : goal.returns-clause-ok
returns-clause-ok g c =
    let node = g.S.NodeStore.bucket_at in
    let m = node c.args.store.now in
    let n = node c.settle.new.store in
    let mid : ◌≡◌ {A = Item} (record { key = c.key.result.now; rec = c.rec.result }) c.args.new.now = λ j. record { key = c.key.ensures.is j; rec = c.rec.ensures j } in
    let same = put_is c.args.bucket c.remove_at.new.self c.set_child.new.self c.args.place c.child-left.result c.child-after.result c.key.result.now c.rec.result c.remove_at.ensures c.set_child.ensures c.child-left.ensures c.child-after.ensures in
    let whole = ap node_of same ∙ (exchanged_node c.args.bucket c.args.place c.key.result.now c.rec.result c.requires.place ∙ ap (with_item (node_of c.args.bucket) c.args.place) mid) in
    IfOk-weaker c.settle.result (IsSettled m n c.args.at (node_of (with_pair c.set_child.new.self c.args.place c.key.result.now c.rec.result c.child-after.result))) (IsSettled m n c.args.at (with_item (node_of c.args.bucket) c.args.place c.args.new.now))
    (λ r s. subst (λ (z : Node). IsSettled m n c.args.at z r) whole s) c.settle.ensures.ok
