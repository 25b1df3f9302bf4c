use Rattle.std.proofs.Common.{List, ℕ, ◌∙◌, sym, subst}
use Rattle.std.proofs.lemmas.Result.{on_ok_weaker}
use Rattle.mm_extents.proofs.RoomFalls.{room_kept, room_files}
use Rattle.mm_nstable.specs.Nodes.{SameNames}
use Rattle.mm_records.specs.Stands.{ns_in}
use Rattle.mm_records.proofs.Paying.{write_asks, paid, paid_constants}
use Rattle.mm_records.proofs.adding.put_payload.Goals as goal

pub put_node-requires : goal.put_node-requires
put_node-requires c = c.requires.1.1.1.0.is_node.used

pub overwrite_room-requires : goal.overwrite_room-requires
overwrite_room-requires c = record { own = (c.requires.0, (c.requires.1.0, write_asks c.args.draft.now.image c.requires.0 c.requires.1.0 c.args.node c.args.counts c.requires.1.1.1.0 (c.args.at.file, c.args.at.ofs) c.requires.1.1.0 c.requires.1.1.1.1.0 c.put_node.«new».draft.image c.in_ok-put_node.ensures.lengths c.in_ok-put_node.ensures.files c.in_ok-put_node.ensures.table c.put_node.ensures.kept c.put_node.ensures.names _ c.requires.1.1.1.1.1)) }

pub returns-clause-ok : goal.returns-clause-ok
returns-clause-ok c = on_ok_weaker c.overwrite_room.result (λ f free s room st lv le. paid c.args.draft.now.image free s c.args.node c.args.counts st (c.args.at.file, c.args.at.ofs) room lv c.put_node.«new».draft.image c.in_ok-put_node.ensures.lengths c.in_ok-put_node.ensures.files c.in_ok-put_node.ensures.table c.put_node.ensures.kept c.put_node.ensures.names c.overwrite_room.«new».draft.image c.args.payload.now le (f free s)) c.overwrite_room.ensures.stands

pub returns-clause-constants : goal.returns-clause-constants
returns-clause-constants c = on_ok_weaker c.overwrite_room.result (λ e. paid_constants c.args.draft.now.image c.requires.0 c.requires.1.0 c.args.node c.args.counts c.requires.1.1.1.0 (c.args.at.file, c.args.at.ofs) c.requires.1.1.0 c.requires.1.1.1.1.0 c.put_node.«new».draft.image c.in_ok-put_node.ensures.lengths c.in_ok-put_node.ensures.files c.in_ok-put_node.ensures.table c.put_node.ensures.kept c.put_node.ensures.names c.overwrite_room.«new».draft.image e) c.overwrite_room.ensures.ns

pub returns-clause-names : goal.returns-clause-names
returns-clause-names c = on_ok_weaker c.overwrite_room.result (λ e. subst (λ (ns : List ℕ). SameNames (ns_in c.args.draft.now.image) ns) (sym e) c.put_node.ensures.names) c.overwrite_room.ensures.ns

pub returns-clause-files : goal.returns-clause-files
returns-clause-files c = on_ok_weaker c.overwrite_room.result (λ k. room_kept c.put_node.«new».draft.image c.overwrite_room.«new».draft.image k
    ∙ room_files c.args.draft.now.image c.put_node.«new».draft.image c.in_ok-put_node.ensures.lengths c.in_ok-put_node.ensures.files) c.overwrite_room.ensures.kept
