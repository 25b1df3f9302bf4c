use Rattle.std.proofs.Common.{◌∙◌, ap, length}
use Rattle.std.specs.FinMap.{insert}
use Rattle.mm_frames.specs.Details.{details_bytes}
use Rattle.mm_frames.specs.declared.details.Details.{Details}
use Rattle.mm_nstable.specs.Nodes.{node_at}
use Rattle.mm_nstable.specs.Table.{table_of}
use Rattle.mm_records.specs.Stands.{ns_in}
use Rattle.mm_records.specs.Map.{name_at}
use Rattle.mm_records.proofs.FreeSteps.{used_there}
use Rattle.mm_records.proofs.NodeWrites.{other_files, same_lengths}
use Rattle.mm_rows_trees.proofs.FileLaws.{both_ok}
use Rattle.mm_rows_trees.proofs.CountLaws.{one_long, is_counted}
use Rattle.mm_rows_trees.proofs.files.counted.Goals as goal

pub details-counts-requires : goal.details-counts-requires
details-counts-requires c = used_there _ c.args.owner c.requires.owner.used

pub returns : goal.returns
returns c =
    let old = c.args.draft.now in
    let new = c.put_details.new.draft in
    let owner = c.args.owner in
    let used = c.requires.owner.used in
    let d = c.details-counts.result in
    let same = c.one_index.ensures in
    let none = c.lack_indexes.ensures c.if-not-lack_indexes.false in
    let long = ap (λ (x : Details). length (details_bytes x)) same ∙ one_long (node_at (ns_in old.image) owner) d c.details-counts.ensures.is in
    let put = c.put_details.ensures in
    let kept = put.kept c.requires.bare.1.1.0.table in
    both_ok c.put_details.result (λ w t.
    is_counted old.image new.image owner d c.details-counts.ensures.is used c.requires.kind none
    (same_lengths old new owner (details_bytes c.one_index.result) used long w) (other_files old new _ _ w)
    (t c.requires.bare.1.1.0.table ∙ ap (λ (x : Details). insert (table_of (ns_in old.image)) (name_at old.image owner) (record { node = owner; details = x })) same) kept put.names) put.written put.table
