use Rattle.std.proofs.Common.{◌≡◌, length, refl, rules}
use Rattle.std.proofs.lemmas.Result.{on_ok_weaker}
use Rattle.mm_base.proofs.TableLaws.{length-joined}
use Rattle.mm_frames.specs.Details.{details_table, details_bytes}
use Rattle.mm_frames.proofs.Again.{length-index_pairs_bytes}
use Rattle.mm_records.proofs.NodeWrites.{other_files, same_lengths}
use Rattle.mm_records.proofs.nodes.put_node.Goals as goal

pub returns-clause-lengths : goal.returns-clause-lengths
unfolding details_bytes
returns-clause-lengths c =
    let long : length (details_bytes c.args.details) ≡ 496 = length-joined 496 (details_table c.args.details) refl (search (rules, length-index_pairs_bytes)) in
    on_ok_weaker c.put_details.result (λ e. same_lengths c.args.draft.now c.put_details.«new».draft c.args.node (details_bytes c.args.details) c.requires long e) c.put_details.ensures.written

pub returns-clause-files : goal.returns-clause-files
returns-clause-files c = on_ok_weaker c.put_details.result (λ e. other_files c.args.draft.now c.put_details.«new».draft _ _ e) c.put_details.ensures.written
