use Rattle.std.proofs.Common.{length}
use Rattle.std.proofs.lemmas.Result.{on_ok_weaker}
use Rattle.mm_records.proofs.Askings.{asked}
use Rattle.mm_rows_records.proofs.CallLaws.{is_node, names_kept, on_of}
use Rattle.mm_rows_records.proofs.calls.taken.Goals as goal

pub alloc-requires-clause-stands : goal.alloc-requires-clause-stands
alloc-requires-clause-stands c = let g = c.requires.good in (g.0, (g.1.0, (g.1.1, is_node c.args.draft.now.image c.args.store.node c.requires.node g.0 g.1.0 g.1.1)))

pub returns-clause-good : goal.returns-clause-good
returns-clause-good c =
    let g = c.requires.good in
    let r = asked c.args.request (length c.args.payload.now) in
    on_of c.alloc.result c.alloc.ensures.ok (λ at f. let t = f g.0 g.1.0 r.0 g.1.1 (is_node c.args.draft.now.image c.args.store.node c.requires.node g.0 g.1.0 g.1.1) r.1 in (g.0, (t.0, t.1.0)))

pub returns-clause-node : goal.returns-clause-node
returns-clause-node c = on_ok_weaker c.alloc.result (λ n. names_kept c.args.draft.now.image c.alloc.«new».draft.image c.args.store.node n c.requires.node) c.alloc.ensures.names
