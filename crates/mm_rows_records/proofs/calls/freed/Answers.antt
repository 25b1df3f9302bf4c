use Rattle.mm_rows_records.proofs.CallLaws.{names_kept}
use Rattle.mm_rows_records.proofs.calls.freed.Goals as goal

pub free-requires : goal.free-requires
free-requires c =
    let g = c.requires.good in
    let t = c.in-Some.ensures g.0 g.1.0 g.1.1 in
    (g.0, (g.1.0, t))

pub returns-clause-good : goal.returns-clause-good
returns-clause-good c =
    let g = c.requires.good in
    let t = c.in-Some.ensures g.0 g.1.0 g.1.1 in
    let u = c.in_ok-free.ensures.stands g.0 g.1.0 t.0 t.1.0 t.1.1 in
    (g.0, (u.0, u.1.0))

pub returns-clause-node : goal.returns-clause-node
returns-clause-node c = names_kept c.args.draft.now.image c.free.«new».draft.image c.args.store.node c.in_ok-free.ensures.names c.requires.node
