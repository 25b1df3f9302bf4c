use Rattle.std.proofs.Common.{◌≡◌, ◌∙◌, ℕ, Result, Ok, Err, refl, sym, ap}
use Rattle.std.specs.Result.{IsErrAnd}
use Rattle.mm_nstable.specs.Changes.{ns_of, written_at}
use Rattle.mm_nstable.proofs.Written.{stored_whole}
use Rattle.mm_nstable.proofs.Tables.{IsPut, is_put, no_free, some_free}
use Rattle.mm_nstable.proofs.Loops.{none_of}
use Rattle.mm_nstable.specs.declared.fault.NsFault.{NsFault}
use Rattle.mm_nstable.specs.declared.fault.NsFault.TheVariants.{NsFull, NoMemory}
use Rattle.mm_nstable.proofs.table.insert.Goals as goal

not_full : (r : Result ℕ NsFault) → IsErrAnd r (λ fault. fault ≡ NoMemory) → r ≡ Err NsFull → ⊥
not_full (Ok k) and e = absurd and
not_full (Err fault) and e = let same : fault ≡ NsFull = cc in let apart : NoMemory ≡ NsFull = sym and ∙ same in cc

pub returns-in_default-clause-full : goal.returns-in_default-clause-full
returns-in_default-clause-full c = (λ _. no_free (ns_of c.args.draft.now) c.args.name.now (none_of c.first_free.result c.first_free.ensures.none (λ k e. c.in_default.not-Some k e)), λ _. refl)

pub returns-clause-full : goal.returns-clause-full
returns-clause-full c = (λ e. cc, λ none. absurd (some_free (ns_of c.args.draft.now) c.in-Some.node c.in-Some.ensures.there c.in-Some.ensures.some.free none))

pub returns-in_err-overwrite-clause-full : goal.returns-in_err-overwrite-clause-full
returns-in_err-overwrite-clause-full c = (λ e. absurd (not_full c.from_residual.result c.from_residual.ensures.1 e), λ none. absurd (some_free (ns_of c.args.draft.now) c.in-Some.node c.in-Some.ensures.there c.in-Some.ensures.some.free none))

-- what the node's bytes make of the table
is_put_here : (c : goal.In_ok-overwrite) → IsPut (ns_of c.args.draft.now) (ns_of c.overwrite.«new».draft) c.in-Some.node c.args.name.now c.args.details.now
is_put_here c =
    let stored = stored_whole c.args.draft.now c.overwrite.«new».draft c.in-Some.node c.node_frame.result c.in-Some.ensures.there c.node_frame.ensures.len
    (c.in_ok-overwrite.ensures.ok ∙ ap (λ (at : ℕ). written_at at c.node_frame.result c.args.draft.now) c.place-at.ensures.is) in
    is_put (ns_of c.args.draft.now) (ns_of c.overwrite.«new».draft) c.in-Some.node c.node_frame.result c.args.name.now c.args.details.now stored c.requires.table c.requires.absent c.in-Some.ensures.some.free
    c.node_frame.ensures.named c.node_frame.ensures.name c.node_frame.ensures.used c.node_frame.ensures.details

pub returns-clause-table : goal.returns-clause-table
returns-clause-table c = (is_put_here c).table

pub returns-clause-used : goal.returns-clause-used
returns-clause-used c = (is_put_here c).used

pub returns-clause-kept : goal.returns-clause-kept
returns-clause-kept c = (is_put_here c).kept

pub returns-clause-zeros : goal.returns-clause-zeros
returns-clause-zeros c = (is_put_here c).zeros
