use Rattle.std.proofs.Common.{◌≡◌, ◌∙◌, ap, length, arith}
use Rattle.std.specs.FinMap.{insert}
use Rattle.mm_frames.specs.Details.{details_bytes}
use Rattle.mm_frames.specs.declared.details.Details.{Details}
use Rattle.mm_nstable.specs.Nodes.{node_at, details_in}
use Rattle.mm_nstable.specs.Table.{table_of}
use Rattle.mm_records.specs.Stands.{ns_in}
use Rattle.mm_records.specs.Map.{name_at}
use Rattle.mm_records.proofs.FreeSteps.{used_there}
use Rattle.mm_records.proofs.NodeWrites.{other_files, same_lengths}
use Rattle.mm_trees.specs.Roots.{with_root}
use Rattle.mm_trees.proofs.RootLaws.{pairs_long, root_long, root_put}
use Rattle.mm_trees.proofs.roots.put_root.Goals as goal

pub details-requires : goal.details-requires
details-requires c = used_there _ c.args.owner c.requires.used

pub named-counts-requires : goal.named-counts-requires
named-counts-requires c =
    let l = ap (λ (d : Details). length d.indexes) c.details.ensures.is in
    let m = pairs_long (node_at (ns_in c.args.draft.now.image) c.args.owner) in
    let i = c.requires.inside in
    omega (arith, l, m, i)

pub returns-clause-put : goal.returns-clause-put
returns-clause-put c =
    let old = c.args.draft.now in
    let new = c.put_details.new.draft in
    let e = c.in_ok-put_details.ensures in
    let d = c.details.result in
    let same : c.named-counts.result ≡ with_root (details_in (node_at (ns_in old.image) c.args.owner)) c.args.position c.args.root =
    c.named-counts.ensures ∙ ap (λ (x : Details). with_root x c.args.position c.args.root) c.details.ensures.is in
    let long = ap (λ (x : Details). length (details_bytes x)) same ∙ root_long (node_at (ns_in old.image) c.args.owner) c.args.position c.args.root in
    let table = e.table c.requires.table ∙ ap (λ (x : Details). insert (table_of (ns_in old.image)) (name_at old.image c.args.owner) (record { node = c.args.owner; details = x })) c.named-counts.ensures in
    root_put old.image new.image c.args.owner c.args.position c.args.root d c.details.ensures.is c.requires.table c.requires.used
    (same_lengths old new c.args.owner (details_bytes c.named-counts.result) c.requires.used long e.written)
    (other_files old new _ _ e.written) table (e.kept c.requires.table) e.names
