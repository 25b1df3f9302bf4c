use Rattle.std.proofs.Common.{ℕ, List, sym, subst}
use Rattle.mm_nstable.specs.FreeChain.{IsFreeName}
use Rattle.mm_records.specs.declared.store.RecordStore.{RecordStore}
use Rattle.mm_cases_check.specs.Drafted.{IsOfRecords}
use Rattle.mm_cases_check.proofs.calls.store.Goals as goal

pub find-requires : goal.find-requires
find-requires c = c.requires.good.1.1.table

pub returns : goal.returns
returns c =
    subst (λ (r : RecordStore). IsOfRecords c.args.draft.now.image r.node) (sym c.at.ensures)
    (record { used = c.in_ok-node.ensures.used; named = λ f. c.requires.named (subst (λ (m : List ℕ). IsFreeName m) c.in_ok-node.ensures.name f) })
