use Rattle.std.proofs.Common.{length}
use Rattle.mm_records.proofs.Askings.{asked}
use Rattle.mm_cases_check.proofs.CallLaws.{is_node}
use Rattle.mm_cases_check.proofs.calls.taken.Goals as goal

pub alloc-requires-clause-stands : goal.alloc-requires-clause-stands
alloc-requires-clause-stands c = let g = c.requires.good in (g.0, (g.1.0, (g.1.1, is_node c.args.draft.now.image c.args.store.node c.requires.node g.0 g.1.0 g.1.1)))

pub returns-in-Ok : goal.returns-in-Ok
returns-in-Ok c =
    let g = c.requires.good in
    let r = asked c.args.request (length c.args.payload.now) in
    let t = c.in-Ok.ensures.ok g.0 g.1.0 r.0 g.1.1 (is_node c.args.draft.now.image c.args.store.node c.requires.node g.0 g.1.0 g.1.1) r.1 in
    (g.0, (t.0, t.1.0))
