use Rattle.mm_records.specs.Map.{name_at}
use Rattle.mm_rows_records.proofs.CallLaws.{some_holds, extent_next}
use Rattle.mm_rows_records.proofs.calls.extents.Goals as goal

pub loop-step-init : goal.loop-step-init
loop-step-init c = λ at e. some_holds _ c.first_extent-next.result c.first_extent-next.ensures at e

pub next_extent-next-requires : goal.next_extent-next-requires
next_extent-next-requires c =
    let g = c.requires.good in
    (g.1.0.heap, (g.1.0.extents, (name_at c.args.draft.now.image c.args.store.node, c.loop-step.invariant c.in-Some.here c.in-Some.is g.0 g.1.0 g.1.1)))

pub loop-step-preserved : goal.loop-step-preserved
loop-step-preserved c = λ at e. extent_next c.args.draft.now.image c.args.store.node c.in-Some.here c.next_extent-next.result (c.loop-step.invariant c.in-Some.here c.in-Some.is) c.next_extent-next.ensures at e
