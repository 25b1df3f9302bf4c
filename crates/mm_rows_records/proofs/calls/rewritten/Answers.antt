use Rattle.std.proofs.Common.{refl, sym, subst}
use Rattle.std.proofs.lemmas.Result.{on_ok_weaker}
use Rattle.mm_views.specs.State.{Drafting}
use Rattle.mm_rows_records.specs.Drafted.{AreGood}
use Rattle.mm_rows_records.proofs.CallLaws.{ns_kept, on_written}
use Rattle.mm_rows_records.proofs.calls.rewritten.Goals as goal

pub write-requires : goal.write-requires
write-requires c =
    let g = c.requires.good in
    let t = c.in-Some.ensures g.0 g.1.0 g.1.1 in
    (g.0, (g.1.0, t))

pub returns-clause-good : goal.returns-clause-good
returns-clause-good c =
    let g = c.requires.good in
    let t = c.in-Some.ensures g.0 g.1.0 g.1.1 in
    on_written _ _ c.write.result c.write.ensures.stands c.write.ensures.refused (λ f. let u = f g.0 g.1.0 t.0 t.1.0 t.1.1 refl in (g.0, (u.0, u.1.0))) (λ f. subst (λ (d : Drafting). AreGood d.image) (sym (f refl)) c.requires.good)

pub returns-clause-node : goal.returns-clause-node
returns-clause-node c = on_ok_weaker c.write.result (λ e. ns_kept c.args.draft.now.image c.write.«new».draft.image c.args.store.node e c.requires.node) c.write.ensures.ns
