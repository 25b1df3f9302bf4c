use Rattle.std.proofs.Common.{◌≡◌, ◌∙◌, ◌+◌, ◌*◌, ◌≤◌, ℕ, List, true, length, refl, ap, subst, sym, arith, rules}
use Rattle.std.specs.FinMap.{insert}
use Rattle.std.proofs.lemmas.Result.{on_ok_weaker}
use Rattle.mm_views.specs.State.{Drafting}
use Rattle.mm_frames.specs.Details.{details_of}
use Rattle.mm_frames.specs.declared.details.Details.{Details}
use Rattle.mm_nstable.specs.Nodes.{node_at, name_in, is_used, IsTable, AreFreeZeros, SameNames}
use Rattle.mm_nstable.specs.Table.{table_of}
use Rattle.mm_nstable.specs.Changes.{ns_of, written_at}
use Rattle.mm_nstable.proofs.Written.{stored_part, head_stays, details_put}
use Rattle.mm_base.specs.Bytes.{overwritten}
use Rattle.mm_nstable.proofs.Tables.{used_parts, details_written, same_names}
use Rattle.mm_nstable.proofs.Loops.{by_result}
use Rattle.mm_nstable.proofs.table.put_details.Goals as goal

put : (d d' : Drafting) (k at : ℕ) (frame : List ℕ) (details : Details) → at ≡ 628 * k → is_used (ns_of d) k ≡ true → length frame ≡ 496 → details_of frame ≡ details → d' ≡ written_at (at + 132) frame d
    → (IsTable (ns_of d) → table_of (ns_of d') ≡ insert (table_of (ns_of d)) (name_in (node_at (ns_of d) k)) (record { node = k; details = details })) × (IsTable (ns_of d) → IsTable (ns_of d')) × (AreFreeZeros (ns_of d) → AreFreeZeros (ns_of d'))
put d d' k at frame details e used len again is =
    let there = (used_parts (ns_of d) k used).there in
    let fits : 132 + length frame ≤ 628 = omega arith in
    details_written (ns_of d) (ns_of d') k (overwritten 132 frame (node_at (ns_of d) k)) details (stored_part d d' k 132 frame there fits (is ∙ ap (λ (a : ℕ). written_at (a + 132) frame d) e)) used
    (head_stays (ns_of d) k frame there) (details_put (ns_of d) k frame details there len again)

pub returns-clause-table : goal.returns-clause-table
returns-clause-table c = on_ok_weaker c.overwrite.result (λ e.
    (put c.args.draft.now c.overwrite.«new».draft c.args.node c.place.result c.details_frame.result c.args.details.now c.place.ensures.is c.requires (search rules) c.details_frame.ensures.again e).0) c.overwrite.ensures.ok

pub returns-clause-kept : goal.returns-clause-kept
returns-clause-kept c = by_result c.overwrite.result
    (λ e. (put c.args.draft.now c.overwrite.«new».draft c.args.node c.place.result c.details_frame.result c.args.details.now c.place.ensures.is c.requires (search rules) c.details_frame.ensures.again e).1)
    (λ e t. subst (λ (d : Drafting). IsTable (ns_of d)) (sym e) t) c.overwrite.ensures.ok c.overwrite.ensures.err

pub returns-clause-zeros : goal.returns-clause-zeros
returns-clause-zeros c = by_result c.overwrite.result
    (λ e. (put c.args.draft.now c.overwrite.«new».draft c.args.node c.place.result c.details_frame.result c.args.details.now c.place.ensures.is c.requires (search rules) c.details_frame.ensures.again e).2)
    (λ e z. subst (λ (d : Drafting). AreFreeZeros (ns_of d)) (sym e) z) c.overwrite.ensures.ok c.overwrite.ensures.err

named : (d d' : Drafting) (k at : ℕ) (frame : List ℕ) → at ≡ 628 * k → is_used (ns_of d) k ≡ true → length frame ≡ 496 → d' ≡ written_at (at + 132) frame d → SameNames (ns_of d) (ns_of d')
named d d' k at frame e used len is =
    let there = (used_parts (ns_of d) k used).there in
    let fits : 132 + length frame ≤ 628 = omega arith in
    same_names (ns_of d) (ns_of d') k (overwritten 132 frame (node_at (ns_of d) k)) (stored_part d d' k 132 frame there fits (is ∙ ap (λ (a : ℕ). written_at (a + 132) frame d) e)) (head_stays (ns_of d) k frame there)

pub returns-clause-names : goal.returns-clause-names
returns-clause-names c = by_result c.overwrite.result
    (λ e. named c.args.draft.now c.overwrite.«new».draft c.args.node c.place.result c.details_frame.result c.place.ensures.is c.requires (search rules) e)
    (λ e. subst (λ (d : Drafting). SameNames (ns_of c.args.draft.now) (ns_of d)) (sym e) (record { used = λ k. refl; names = λ k u. refl })) c.overwrite.ensures.ok c.overwrite.ensures.err
