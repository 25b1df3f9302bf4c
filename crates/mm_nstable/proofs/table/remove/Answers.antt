use Rattle.std.proofs.Common.{◌≡◌, ◌∙◌, ◌*◌, ℕ, true, refl, subst, sym}
use Rattle.std.specs.FinMap.{remove}
use Rattle.std.proofs.lemmas.Result.{on_ok_weaker}
use Rattle.mm_base.specs.Bytes.{zeros}
use Rattle.mm_base.proofs.Numbers.{length-zeros}
use Rattle.mm_views.specs.State.{Drafting}
use Rattle.mm_nstable.specs.Nodes.{node_at, name_in, is_used, IsTable, AreFreeZeros}
use Rattle.mm_nstable.specs.Table.{table_of}
use Rattle.mm_nstable.specs.Changes.{ns_of, written_at}
use Rattle.mm_nstable.proofs.Written.{stored_whole}
use Rattle.mm_nstable.proofs.Frames.{zeros_are}
use Rattle.mm_nstable.proofs.Zeros.{free_zeros}
use Rattle.mm_nstable.proofs.Tables.{used_parts, is_cleared}
use Rattle.mm_nstable.proofs.Loops.{by_result}
use Rattle.mm_nstable.proofs.table.remove.Goals as goal

cleared : (d d' : Drafting) (k : ℕ) → IsTable (ns_of d) → is_used (ns_of d) k ≡ true → d' ≡ written_at (628 * k) (zeros 628) d
    → (table_of (ns_of d') ≡ remove (table_of (ns_of d)) (name_in (node_at (ns_of d) k))) × IsTable (ns_of d') × (AreFreeZeros (ns_of d) → AreFreeZeros (ns_of d'))
cleared d d' k t used is = is_cleared (ns_of d) (ns_of d') k (zeros 628) (stored_whole d d' k (zeros 628) (used_parts (ns_of d) k used).there (length-zeros 628) is) t used free_zeros refl

pub returns-clause-written : goal.returns-clause-written
returns-clause-written c = on_ok_weaker c.overwrite.result (λ e. e ∙ (λ i. written_at (c.place-at.ensures.is i) (zeros_are i) c.args.draft.now)) c.overwrite.ensures.ok

pub returns-clause-table : goal.returns-clause-table
returns-clause-table c = on_ok_weaker c.overwrite.result (λ e.
    (cleared c.args.draft.now c.overwrite.«new».draft c.args.node c.requires.table c.requires.used (e ∙ (λ i. written_at (c.place-at.ensures.is i) (zeros_are i) c.args.draft.now))).0) c.overwrite.ensures.ok

pub returns-clause-kept : goal.returns-clause-kept
returns-clause-kept c = by_result c.overwrite.result
    (λ e. (cleared c.args.draft.now c.overwrite.«new».draft c.args.node c.requires.table c.requires.used (e ∙ (λ i. written_at (c.place-at.ensures.is i) (zeros_are i) c.args.draft.now))).1)
    (λ e. subst (λ (d : Drafting). IsTable (ns_of d)) (sym e) c.requires.table) c.overwrite.ensures.ok c.overwrite.ensures.err

pub returns-clause-zeros : goal.returns-clause-zeros
returns-clause-zeros c = by_result c.overwrite.result
    (λ e. (cleared c.args.draft.now c.overwrite.«new».draft c.args.node c.requires.table c.requires.used (e ∙ (λ i. written_at (c.place-at.ensures.is i) (zeros_are i) c.args.draft.now))).2)
    (λ e z. subst (λ (d : Drafting). AreFreeZeros (ns_of d)) (sym e) z) c.overwrite.ensures.ok c.overwrite.ensures.err
