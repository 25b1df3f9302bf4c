use Rattle.std.proofs.Common.{◌≡◌, sym, ap, ◌∙◌, subst, arith}
use Rattle.std.proofs.lemmas.List.{length-map}
use Rattle.mm_bucket.specs.Pairs.{Contents}
use Rattle.mm_bucket.specs.Rules.{children, AreAlike}
use Rattle.mm_btree.specs.Nodes.{Node, item_of, node_of}
use Rattle.mm_btree.specs.Removal.{IsWritten, with_item, after_join}
use Rattle.mm_btree.proofs.Exchanges.{closed_is, closed_inside, closed_alike, closed_node}
use Rattle.mm_btree.proofs.Removals.{written_of, with_item_some}
use Rattle.mm_btree.proofs.mending.after_join.Goals as goal

pub remove_at-requires : goal.remove_at-requires
remove_at-requires g c = closed_inside c.args.bucket c.set_child.new.self c.args.place c.child-left.result c.requires.place c.set_child.ensures

pub write_left-requires-clause-alike : goal.write_left-requires-clause-alike
write_left-requires-clause-alike g c =
    let same = closed_is c.args.bucket c.set_child.new.self c.remove_at.new.self c.args.place c.child-left.result c.set_child.ensures c.remove_at.ensures c.child-left.ensures in
    subst (λ (z : Contents). AreAlike (children z)) (sym same) (closed_alike c.args.bucket c.args.place c.requires.place c.requires.alike)

pub exchange-requires-clause-kids : goal.exchange-requires-clause-kids
exchange-requires-clause-kids g c = c.requires.kids c.in-Some.mid c.in-Some.is

pub returns-in_ok-outcome-in-None-clause-ok : goal.returns-in_ok-outcome-in-None-clause-ok
returns-in_ok-outcome-in-None-clause-ok g c =
    let node = g.S.NodeStore.bucket_at in
    let m = node c.args.store.now in
    let n = node c.write_left.new.store in
    let b = c.args.bucket in
    let i = c.args.place in
    let same = closed_is b c.set_child.new.self c.remove_at.new.self i c.child-left.result c.set_child.ensures c.remove_at.ensures c.child-left.ensures in
    let whole : node_of c.remove_at.new.self ≡ after_join (node_of b) i c.args.joined = ap node_of same ∙ (closed_node b i c.requires.place c.requires.alike c.requires.inner ∙ ap (after_join (node_of b) i) (sym c.in-None.is)) in
    subst (λ (z : Node). IsWritten m n c.args.at z c.in_ok-outcome-in-None.outcome) whole c.in_ok-outcome-in-None.ensures.ok

pub returns-in_ok-up-in-Some-clause-ok : goal.returns-in_ok-up-in-Some-clause-ok
returns-in_ok-up-in-Some-clause-ok g c =
    let node = g.S.NodeStore.bucket_at in
    let m = node c.args.store.now in
    let n = node c.exchange.new.store in
    let b = c.args.bucket in
    let i = c.args.place in
    let y = c.in-Some.mid in
    let w = written_of m n c.args.at (with_item (node_of b) i y) c.in_ok-up-in-Some.up c.of.result c.of.ensures.ups c.of.ensures.some (with_item_some (node_of b) i y (omega (arith, c.requires.place, length-map b.pairs item_of))) c.in_ok-up-in-Some.ensures.ok in
    subst (λ (z : Node). IsWritten m n c.args.at z c.of.result) (ap (after_join (node_of b) i) (sym c.in-Some.is)) w
