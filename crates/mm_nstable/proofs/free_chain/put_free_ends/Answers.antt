use Rattle.std.proofs.Common.{◌≡◌, ◌+◌, ◌*◌, sym, ◌∙◌}
use Rattle.std.specs.FinMap.{insert}
use Rattle.std.proofs.lemmas.Result.{on_ok_weaker}
use Rattle.mm_frames.specs.Details.{details_bytes}
use Rattle.mm_frames.specs.declared.details.Details.{Details}
use Rattle.mm_nstable.specs.Table.{table_of}
use Rattle.mm_nstable.specs.Changes.{ns_of, written_at}
use Rattle.mm_nstable.specs.FreeChain.{with_ends}
use Rattle.mm_nstable.proofs.FreeNodes.{is_held}
use Rattle.mm_nstable.proofs.free_chain.put_free_ends.Goals as goal

pub returns-clause-written : goal.returns-clause-written
returns-clause-written c = on_ok_weaker c.put_details.result (λ w free held h.
    let i = is_held (ns_of c.args.draft.now) free held c.free_node-node.result c.requires.table h c.free_node-node.ensures in
    let same : c.details-details.result ≡ held.details = c.details-details.ensures.is ∙ sym i.details in
    w ∙ (λ j. written_at (628 * (sym i.node j) + 132) (details_bytes (with_ends c.args.ends.now (same j))) c.args.draft.now)) c.put_details.ensures.written

pub returns-clause-table : goal.returns-clause-table
returns-clause-table c = on_ok_weaker c.put_details.result (λ w free held h.
    let i = is_held (ns_of c.args.draft.now) free held c.free_node-node.result c.requires.table h c.free_node-node.ensures in
    let same : c.details-details.result ≡ held.details = c.details-details.ensures.is ∙ sym i.details in
    w c.requires.table ∙ (λ j. insert (table_of (ns_of c.args.draft.now)) (i.name j) (record { node = sym i.node j; details = with_ends c.args.ends.now (same j) }))) c.put_details.ensures.table
