use Rattle.std.proofs.Common.{◌≡◌, ◌++◌, None, ap, ◌∙◌}
use Rattle.std.proofs.lemmas.Result.{on_ok_weaker}
use Rattle.mm_btree.specs.Trees.{Sub}
use Rattle.mm_btree.specs.Changes.{IsTree}
use Rattle.mm_btree.specs.Order.{item_lt}
use Rattle.mm_btree.specs.Listed.{between}
use Rattle.mm_btree.proofs.Listing.{all_listed}
use Rattle.mm_btree.proofs.ranges.walk.Goals as goal

pub range-requires : goal.range-requires
range-requires g c = c.requires

pub returns : goal.returns
returns g c =
    let m = g.S.NodeStore.bucket_at c.args.store.now in
    let spec = c.args.spec.now in
    let old = c.args.out.now.items in
    let lt = item_lt spec in
    on_ok_weaker c.range.result
    (λ (f : (s : Sub) → IsTree lt m c.args.root c.args.height s → c.range.new.out.items ≡ old ++ between spec None None s.pairs) (s : Sub) (sa : IsTree lt m c.args.root c.args.height s). f s sa ∙ ap (λ xs. old ++ xs) (all_listed spec s.pairs))
    c.range.ensures
