use Rattle.std.proofs.Common.{◌≡◌, ◌++◌, sym, ap, ◌∙◌}
use Rattle.std.proofs.lemmas.Result.{on_ok_weaker}
use Rattle.mm_base.specs.Places.{null}
use Rattle.mm_btree.specs.Trees.{Sub}
use Rattle.mm_btree.specs.Changes.{IsTree}
use Rattle.mm_btree.specs.Order.{item_lt}
use Rattle.mm_btree.specs.Listed.{listed, between}
use Rattle.mm_btree.proofs.Ranged.{tree_listed}
use Rattle.mm_btree.proofs.ranges.range.Goals as goal

pub range_below-requires : goal.range_below-requires
range_below-requires g c = (null, c.requires.0, c.requires.1)

pub returns : goal.returns
returns g c =
    let m = g.S.NodeStore.bucket_at c.args.store.now in
    let spec = c.args.spec.now in
    let low = c.args.bounds.now.low in
    let high = c.args.bounds.now.high in
    let old = c.args.out.now.items in
    let lt = item_lt spec in
    on_ok_weaker c.range_below.result
    (λ (e : c.range_below.new.out.items ≡ old ++ between spec low high (listed m c.args.height c.args.root)) (s : Sub) (sa : IsTree lt m c.args.root c.args.height s). e ∙ ap (λ ps. old ++ between spec low high ps) (sym (tree_listed spec m c.args.root c.args.height s sa)))
    c.range_below.ensures
