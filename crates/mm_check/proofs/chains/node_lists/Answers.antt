use Rattle.std.proofs.Common.{◌≡◌, ◌+◌, ◌++◌, ◌∷◌, [], map, sym, ap, ◌∙◌, arith}
use Rattle.std.proofs.lemmas.List.{map-append}
use Rattle.std.proofs.lemmas.List.FromFn.{map-range_with_len_more}
use Rattle.mm_check.specs.Phases.{deleted_reading, owner_at, list_chain}
use Rattle.mm_check.proofs.chains.node_lists.Goals as goal

pub loop-list-preserved : goal.loop-list-preserved
loop-list-preserved c =
    let z : 0 + c.loop-list.list ≡ c.loop-list.list = omega arith in
    ap (map deleted_reading) c.in_ok-push.ensures.items ∙ map-append deleted_reading c.loop-list.chains.items (c.list_chain.result ∷ [])
    ∙ (λ j. c.loop-list.invariant j ++ c.list_chain.ensures j ∷ []) ∙ sym (map-range_with_len_more (list_chain c.args.views.now.private (owner_at c.args.node c.args.extents.now)) 0 c.loop-list.list c.loop-list.list z)
