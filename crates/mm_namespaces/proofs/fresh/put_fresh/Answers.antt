use Rattle.std.proofs.Common.{◌≡◌, length, refl, rules}
use Rattle.mm_base.proofs.TableLaws.{length-joined}
use Rattle.mm_frames.specs.Details.{details_table, details_bytes}
use Rattle.mm_frames.proofs.Again.{length-index_pairs_bytes}
use Rattle.mm_nstable.specs.Changes.{ns_of}
use Rattle.mm_records.proofs.NodeWrites.{other_files}
use Rattle.mm_namespaces.proofs.NodeBytes.{length-node_bytes, free_there, node_lengths, node_others, ok_both, on_both, holds_of, on_of}
use Rattle.mm_namespaces.proofs.fresh.put_fresh.Goals as goal

pub returns-clause-put : goal.returns-clause-put
returns-clause-put c = holds_of c.insert.result c.insert.ensures.table (λ node e. (c.fresh_details-details.result, (c.fresh_details-details.ensures c.args.name.now c.requires.kind, e)))

pub returns-clause-others : goal.returns-clause-others
unfolding details_bytes
returns-clause-others c =
    let long : length (details_bytes c.fresh_details-details.result) ≡ 496 = length-joined 496 (details_table c.fresh_details-details.result) refl (search (rules, length-index_pairs_bytes)) in
    let whole = length-node_bytes c.args.name.now c.fresh_details-details.result c.bytes-bytes.ensures.name long in
    ok_both c.insert.result c.insert.ensures.place c.insert.ensures.written (λ node place e. node_others c.args.draft.now c.insert.«new».draft node _ (free_there (ns_of c.args.draft.now) c.args.name.now node place) whole e)

pub returns-clause-lengths : goal.returns-clause-lengths
unfolding details_bytes
returns-clause-lengths c =
    let long : length (details_bytes c.fresh_details-details.result) ≡ 496 = length-joined 496 (details_table c.fresh_details-details.result) refl (search (rules, length-index_pairs_bytes)) in
    let whole = length-node_bytes c.args.name.now c.fresh_details-details.result c.bytes-bytes.ensures.name long in
    on_both c.insert.result c.insert.ensures.place c.insert.ensures.written (λ node place e. node_lengths c.args.draft.now c.insert.«new».draft node _ (free_there (ns_of c.args.draft.now) c.args.name.now node place) whole e)

pub returns-clause-files : goal.returns-clause-files
returns-clause-files c = on_of c.insert.result c.insert.ensures.written (λ node e. other_files c.args.draft.now c.insert.«new».draft _ _ e)
