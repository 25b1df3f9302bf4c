use Rattle.std.proofs.Common.{◌≡◌, ℕ, pos, ◌+◌, ◌-◌, ◌<◌, List, length, to_z, of_z, sym, ◌∙◌, ap, subst, arith, rules, refl}
use Rattle.std.specs.Prelude.{FitsSigned, slice_index_or}
use Rattle.std.specs.Int.{w32}
use Rattle.std.proofs.lemmas.Int.{to_z-of_z}
use Rattle.std.proofs.lemmas.List.{get_or_default}
use Rattle.std.proofs.lemmas.Result.{on_ok_weaker}
use Rattle.mm_base.specs.Places.{null}
use Rattle.mm_frames.specs.declared.rec_header.RecHeader.{RecHeader}
use Rattle.mm_nstable.specs.Nodes.{is_used, count_of, SameNames, name_in, node_at, IsTable}
use Rattle.mm_nstable.specs.Table.{table_of}
use Rattle.std.specs.FinMap.{insert}
use Rattle.mm_records.proofs.ConstantLaws.{same_constants}
use Rattle.mm_records.specs.Stands.{ns_in}
use Rattle.mm_extents.proofs.Fields.{keeps_both}
use Rattle.mm_extents.proofs.RoomFalls.{room_kept, room_files}
use Rattle.mm_records.specs.Shape.{list_for}
use Rattle.mm_records.proofs.Passing.{kept_by}
use Rattle.mm_extents.proofs.FileLaws.{short_file}
use Rattle.mm_records.proofs.FreeCall.{head_is, own_inside, own_behind, own_file, own_len, own_stand, counted}
use Rattle.mm_links.specs.Links.{Place}
use Rattle.mm_records.proofs.FreedMap.{taken_out, others_stay}
use Rattle.mm_records.proofs.FreeSteps.{used_there, details_same, both_ok, reads_of, own_len_of, the_list, finish, nonneg, forward_asks, back_asks, deleted_asks, heap3}
use Rattle.mm_records.proofs.freeing.free_at.Goals as goal

pub read_record-head-requires : goal.read_record-head-requires
read_record-head-requires c = let i = own_inside c.args.draft.now.image c.requires.0 c.requires.1.0 c.args.node (c.args.at.file, c.args.at.ofs) c.requires.1.1 in omega (arith, i)

pub natural-ext-requires : goal.natural-ext-requires
natural-ext-requires c =
    let own = c.requires.1.1 in
    let f : FitsSigned w32 c.read_record-head.result.extent_ofs = search rules in
    let head = head_is c.args.draft.now.image c.requires.0 c.requires.1.0 c.args.node (c.args.at.file, c.args.at.ofs) own c.read_record-head.result c.read_record-head.ensures in
    nonneg _ own.a (to_z-of_z w32 c.read_record-head.result.extent_ofs f ∙ ap (λ (h : RecHeader). h.extent_ofs) head ∙ own.ext)

pub natural-len-requires : goal.natural-len-requires
natural-len-requires c =
    let own = c.requires.1.1 in
    let f : FitsSigned w32 c.read_record-head.result.length_with_headers = search rules in
    let head = head_is c.args.draft.now.image c.requires.0 c.requires.1.0 c.args.node (c.args.at.file, c.args.at.ofs) own c.read_record-head.result c.read_record-head.ensures in
    nonneg _ (16 + length own.room) (to_z-of_z w32 c.read_record-head.result.length_with_headers f ∙ ap (λ (h : RecHeader). h.length_with_headers) head ∙ own_len c.args.draft.now.image c.requires.0 c.requires.1.0 c.args.node (c.args.at.file, c.args.at.ofs) own)

pub pass_forward-requires : goal.pass_forward-requires
pass_forward-requires c =
    let fe : FitsSigned w32 c.read_record-head.result.extent_ofs = search rules in
    let fp : FitsSigned w32 c.read_record-head.result.prev_ofs = search rules in
    let fn : FitsSigned w32 c.read_record-head.result.next_ofs = search rules in
    forward_asks c.args.draft.now.image c.requires.0 c.requires.1.0 c.args.node (c.args.at.file, c.args.at.ofs) c.requires.1.1 c.natural-ext.result (to_z w32 (of_z w32 c.read_record-head.result.prev_ofs)) (to_z w32 (of_z w32 c.read_record-head.result.next_ofs)) (reads_of c.args.draft.now.image c.requires.0 c.requires.1.0 c.args.node (c.args.at.file, c.args.at.ofs) c.requires.1.1 c.read_record-head.result c.natural-ext.result c.read_record-head.ensures fe fp fn c.natural-ext.ensures)

pub pass_back-requires : goal.pass_back-requires
pass_back-requires c =
    let fe : FitsSigned w32 c.read_record-head.result.extent_ofs = search rules in
    let fp : FitsSigned w32 c.read_record-head.result.prev_ofs = search rules in
    let fn : FitsSigned w32 c.read_record-head.result.next_ofs = search rules in
    back_asks c.args.draft.now.image c.requires.0 c.requires.1.0 c.args.node (c.args.at.file, c.args.at.ofs) c.requires.1.1 c.natural-ext.result (to_z w32 (of_z w32 c.read_record-head.result.prev_ofs)) (to_z w32 (of_z w32 c.read_record-head.result.next_ofs)) (reads_of c.args.draft.now.image c.requires.0 c.requires.1.0 c.args.node (c.args.at.file, c.args.at.ofs) c.requires.1.1 c.read_record-head.result c.natural-ext.result c.read_record-head.ensures fe fp fn c.natural-ext.ensures) c.pass_forward.«new».draft.image c.in_ok-pass_forward.ensures.heap

pub set_deleted-requires : goal.set_deleted-requires
set_deleted-requires c =
    let fe : FitsSigned w32 c.read_record-head.result.extent_ofs = search rules in
    let fp : FitsSigned w32 c.read_record-head.result.prev_ofs = search rules in
    let fn : FitsSigned w32 c.read_record-head.result.next_ofs = search rules in
    deleted_asks c.args.draft.now.image c.requires.0 c.requires.1.0 c.args.node (c.args.at.file, c.args.at.ofs) c.requires.1.1 c.natural-ext.result (to_z w32 (of_z w32 c.read_record-head.result.prev_ofs)) (to_z w32 (of_z w32 c.read_record-head.result.next_ofs)) (reads_of c.args.draft.now.image c.requires.0 c.requires.1.0 c.args.node (c.args.at.file, c.args.at.ofs) c.requires.1.1 c.read_record-head.result c.natural-ext.result c.read_record-head.ensures fe fp fn c.natural-ext.ensures) c.pass_forward.«new».draft.image c.in_ok-pass_forward.ensures.heap c.pass_back.«new».draft.image c.in_ok-pass_back.ensures.heap

pub overflow_sub-len : goal.overflow_sub-len
overflow_sub-len c =
    let fl : FitsSigned w32 c.read_record-head.result.length_with_headers = search rules in
    let long = (own_len_of c.args.draft.now.image c.requires.0 c.requires.1.0 c.args.node (c.args.at.file, c.args.at.ofs) c.requires.1.1 c.read_record-head.result c.natural-len.result c.read_record-head.ensures fl c.natural-len.ensures) in
    omega (arith, long)

pub count_out-requires-clause-file : goal.count_out-requires-clause-file
count_out-requires-clause-file c = own_file c.args.draft.now.image c.requires.0 c.requires.1.0 c.args.node (c.args.at.file, c.args.at.ofs) c.requires.1.1

pub count_out-requires-clause-ofs : goal.count_out-requires-clause-ofs
count_out-requires-clause-ofs c =
    let i = own_inside c.args.draft.now.image c.requires.0 c.requires.1.0 c.args.node (c.args.at.file, c.args.at.ofs) c.requires.1.1 in
    let b = short_file c.args.draft.now.image c.requires.1.1.stands.files c.args.at.file (own_file c.args.draft.now.image c.requires.0 c.requires.1.0 c.args.node (c.args.at.file, c.args.at.ofs) c.requires.1.1) in
    omega (arith, i, b)

pub count_out-requires-clause-some : goal.count_out-requires-clause-some
count_out-requires-clause-some c = (counted c.args.draft.now.image c.requires.0 c.requires.1.0 c.args.node (c.args.at.file, c.args.at.ofs) c.requires.1.1 c.details-counts.result (own_stand c.args.draft.now.image c.requires.0 c.requires.1.0 c.args.node (c.args.at.file, c.args.at.ofs) c.requires.1.1 c.details-counts.result (details_same c.args.draft.now.image c.pass_back.«new».draft.image c.args.node c.details-counts.result (keeps_both c.args.draft.now.image c.pass_forward.«new».draft.image c.pass_back.«new».draft.image c.in_ok-pass_forward.ensures.kept c.in_ok-pass_back.ensures.kept) c.requires.1.1.stands.table c.requires.1.1.used c.details-counts.ensures.table))).0

pub count_out-requires-clause-large : goal.count_out-requires-clause-large
count_out-requires-clause-large c =
    let fl : FitsSigned w32 c.read_record-head.result.length_with_headers = search rules in
    let more = (counted c.args.draft.now.image c.requires.0 c.requires.1.0 c.args.node (c.args.at.file, c.args.at.ofs) c.requires.1.1 c.details-counts.result (own_stand c.args.draft.now.image c.requires.0 c.requires.1.0 c.args.node (c.args.at.file, c.args.at.ofs) c.requires.1.1 c.details-counts.result (details_same c.args.draft.now.image c.pass_back.«new».draft.image c.args.node c.details-counts.result (keeps_both c.args.draft.now.image c.pass_forward.«new».draft.image c.pass_back.«new».draft.image c.in_ok-pass_forward.ensures.kept c.in_ok-pass_back.ensures.kept) c.requires.1.1.stands.table c.requires.1.1.used c.details-counts.ensures.table))).1 in
    let long = (own_len_of c.args.draft.now.image c.requires.0 c.requires.1.0 c.args.node (c.args.at.file, c.args.at.ofs) c.requires.1.1 c.read_record-head.result c.natural-len.result c.read_record-head.ensures fl c.natural-len.ensures) in
    (more.0, more.1 ∙ ap (λ (m : ℕ). pos (more.0 + m)) (let r : length c.requires.1.1.room ≡ c.natural-len.result - 16 = omega (arith, long) in r))

pub put_node-requires : goal.put_node-requires
put_node-requires c =
    let fe : FitsSigned w32 c.read_record-head.result.extent_ofs = search rules in
    let fp : FitsSigned w32 c.read_record-head.result.prev_ofs = search rules in
    let fn : FitsSigned w32 c.read_record-head.result.next_ofs = search rules in
    let k = (keeps_both c.args.draft.now.image c.pass_back.«new».draft.image c.set_deleted.«new».draft.image (keeps_both c.args.draft.now.image c.pass_forward.«new».draft.image c.pass_back.«new».draft.image c.in_ok-pass_forward.ensures.kept c.in_ok-pass_back.ensures.kept) (kept_by c.pass_back.«new».draft c.set_deleted.«new».draft c.args.at.file c.args.at.ofs 16 c.in_ok-set_deleted.ensures.written (record { data_file = own_file c.args.draft.now.image c.requires.0 c.requires.1.0 c.args.node (c.args.at.file, c.args.at.ofs) c.requires.1.1; behind = own_behind c.args.draft.now.image c.requires.0 c.requires.1.0 c.args.node (c.args.at.file, c.args.at.ofs) c.requires.1.1; inside = deleted_asks c.args.draft.now.image c.requires.0 c.requires.1.0 c.args.node (c.args.at.file, c.args.at.ofs) c.requires.1.1 c.natural-ext.result (to_z w32 (of_z w32 c.read_record-head.result.prev_ofs)) (to_z w32 (of_z w32 c.read_record-head.result.next_ofs)) (reads_of c.args.draft.now.image c.requires.0 c.requires.1.0 c.args.node (c.args.at.file, c.args.at.ofs) c.requires.1.1 c.read_record-head.result c.natural-ext.result c.read_record-head.ensures fe fp fn c.natural-ext.ensures) c.pass_forward.«new».draft.image c.in_ok-pass_forward.ensures.heap c.pass_back.«new».draft.image c.in_ok-pass_back.ensures.heap }))) in
    ap (λ (ns : List ℕ). is_used ns c.args.node) k.ns ∙ c.requires.1.1.used

pub returns-clause-stands : goal.returns-clause-stands
returns-clause-stands c =
    let fe : FitsSigned w32 c.read_record-head.result.extent_ofs = search rules in
    let fp : FitsSigned w32 c.read_record-head.result.prev_ofs = search rules in
    let fn : FitsSigned w32 c.read_record-head.result.next_ofs = search rules in
    let fl : FitsSigned w32 c.read_record-head.result.length_with_headers = search rules in
    let seven : length c.details-counts.result.deleted ≡ 19 = search rules in
    on_ok_weaker c.put_node.result (λ w free s own.
    let k = (keeps_both c.args.draft.now.image c.pass_back.«new».draft.image c.set_deleted.«new».draft.image (keeps_both c.args.draft.now.image c.pass_forward.«new».draft.image c.pass_back.«new».draft.image c.in_ok-pass_forward.ensures.kept c.in_ok-pass_back.ensures.kept) (kept_by c.pass_back.«new».draft c.set_deleted.«new».draft c.args.at.file c.args.at.ofs 16 c.in_ok-set_deleted.ensures.written (record { data_file = own_file c.args.draft.now.image free s c.args.node (c.args.at.file, c.args.at.ofs) own; behind = own_behind c.args.draft.now.image free s c.args.node (c.args.at.file, c.args.at.ofs) own; inside = deleted_asks c.args.draft.now.image free s c.args.node (c.args.at.file, c.args.at.ofs) own c.natural-ext.result (to_z w32 (of_z w32 c.read_record-head.result.prev_ofs)) (to_z w32 (of_z w32 c.read_record-head.result.next_ofs)) (reads_of c.args.draft.now.image free s c.args.node (c.args.at.file, c.args.at.ofs) own c.read_record-head.result c.natural-ext.result c.read_record-head.ensures fe fp fn c.natural-ext.ensures) c.pass_forward.«new».draft.image c.in_ok-pass_forward.ensures.heap c.pass_back.«new».draft.image c.in_ok-pass_back.ensures.heap }))) in
    let there = details_same c.args.draft.now.image c.pass_back.«new».draft.image c.args.node c.details-counts.result (keeps_both c.args.draft.now.image c.pass_forward.«new».draft.image c.pass_back.«new».draft.image c.in_ok-pass_forward.ensures.kept c.in_ok-pass_back.ensures.kept) own.stands.table own.used c.details-counts.ensures.table in
    let ds = (own_stand c.args.draft.now.image free s c.args.node (c.args.at.file, c.args.at.ofs) own c.details-counts.result there) in
    let long = (own_len_of c.args.draft.now.image free s c.args.node (c.args.at.file, c.args.at.ofs) own c.read_record-head.result c.natural-len.result c.read_record-head.ensures fl c.natural-len.ensures) in
    let right = the_list c.args.draft.now.image free s c.args.node (c.args.at.file, c.args.at.ofs) own c.natural-len.result c.list_of-list.result long c.list_of-list.ensures.is c.list_of-list.ensures.there c.details-counts.result c.count_out.«new».counts ds in
    let low : list_for (16 + length own.room) < 19 = subst (λ (n : ℕ). n < 19) right c.list_of-list.ensures.there in
    let nd = get_or_default c.details-counts.result.deleted c.list_of-list.result c.index-counts-list.result null (let b = c.list_of-list.ensures.there in omega (arith, b, seven)) in
    finish c.args.draft.now.image free s c.args.node (c.args.at.file, c.args.at.ofs) own c.natural-len.result c.list_of-list.result long c.list_of-list.ensures.is c.list_of-list.ensures.there c.details-counts.result c.count_out.«new».counts ds
    c.set_deleted.«new».draft.image c.put_node.«new».draft.image k
    (heap3 c.args.draft.now.image free s c.args.node (c.args.at.file, c.args.at.ofs) own c.natural-ext.result (to_z w32 (of_z w32 c.read_record-head.result.prev_ofs)) (to_z w32 (of_z w32 c.read_record-head.result.next_ofs)) (reads_of c.args.draft.now.image free s c.args.node (c.args.at.file, c.args.at.ofs) own c.read_record-head.result c.natural-ext.result c.read_record-head.ensures fe fp fn c.natural-ext.ensures) c.pass_forward.«new».draft.image c.in_ok-pass_forward.ensures.heap c.pass_back.«new».draft.image c.in_ok-pass_back.ensures.heap c.set_deleted.«new».draft.image (slice_index_or c.details-counts.result.deleted c.list_of-list.result c.index-counts-list.result) c.details-counts.result ds low (nd ∙ ap (λ (i : ℕ). slice_index_or c.details-counts.result.deleted i null) right) c.in_ok-set_deleted.ensures.heap)
    c.count_out.ensures.first c.count_out.ensures.last c.count_out.ensures.head c.count_out.ensures.heads c.count_out.ensures.size c.count_out.ensures.constants c.count_out.ensures.nrecords c.count_out.ensures.datasize
    w.0.0 there w.0.1 w.1 c.put_node.ensures.kept)
    (both_ok _ _ c.put_node.result (both_ok _ _ c.put_node.result c.put_node.ensures.lengths c.put_node.ensures.files) c.put_node.ensures.table)

pub returns-clause-map : goal.returns-clause-map
returns-clause-map c = on_ok_weaker c.put_node.result (λ _ free s own.
    let p : Place = (c.args.at.file, c.args.at.ofs) in
    let st = own.stands in
    record {
      gone = taken_out s p own.h own.room own.a own.hh st.extents st.records st.lists own.here own.ext own.there;
      others = others_stay s p own.h own.room own.a own.hh st.extents st.records st.lists own.here own.ext own.there;
    }) c.put_node.ensures.files

pub details-counts-requires : goal.details-counts-requires
details-counts-requires c =
    let k = (keeps_both c.args.draft.now.image c.pass_forward.«new».draft.image c.pass_back.«new».draft.image c.in_ok-pass_forward.ensures.kept c.in_ok-pass_back.ensures.kept) in
    subst (λ (ns : List ℕ). c.args.node < count_of ns) (sym k.ns) (used_there _ c.args.node c.requires.1.1.used)

pub returns-clause-names : goal.returns-clause-names
returns-clause-names c =
    let fe : FitsSigned w32 c.read_record-head.result.extent_ofs = search rules in
    let fp : FitsSigned w32 c.read_record-head.result.prev_ofs = search rules in
    let fn : FitsSigned w32 c.read_record-head.result.next_ofs = search rules in
    let k = (keeps_both c.args.draft.now.image c.pass_back.«new».draft.image c.set_deleted.«new».draft.image (keeps_both c.args.draft.now.image c.pass_forward.«new».draft.image c.pass_back.«new».draft.image c.in_ok-pass_forward.ensures.kept c.in_ok-pass_back.ensures.kept) (kept_by c.pass_back.«new».draft c.set_deleted.«new».draft c.args.at.file c.args.at.ofs 16 c.in_ok-set_deleted.ensures.written (record { data_file = own_file c.args.draft.now.image c.requires.0 c.requires.1.0 c.args.node (c.args.at.file, c.args.at.ofs) c.requires.1.1; behind = own_behind c.args.draft.now.image c.requires.0 c.requires.1.0 c.args.node (c.args.at.file, c.args.at.ofs) c.requires.1.1; inside = deleted_asks c.args.draft.now.image c.requires.0 c.requires.1.0 c.args.node (c.args.at.file, c.args.at.ofs) c.requires.1.1 c.natural-ext.result (to_z w32 (of_z w32 c.read_record-head.result.prev_ofs)) (to_z w32 (of_z w32 c.read_record-head.result.next_ofs)) (reads_of c.args.draft.now.image c.requires.0 c.requires.1.0 c.args.node (c.args.at.file, c.args.at.ofs) c.requires.1.1 c.read_record-head.result c.natural-ext.result c.read_record-head.ensures fe fp fn c.natural-ext.ensures) c.pass_forward.«new».draft.image c.in_ok-pass_forward.ensures.heap c.pass_back.«new».draft.image c.in_ok-pass_back.ensures.heap }))) in
    on_ok_weaker c.put_node.result (λ _. subst (λ (ns : List ℕ). SameNames ns (ns_in c.put_node.«new».draft.image)) k.ns c.put_node.ensures.names) c.put_node.ensures.files

pub returns-clause-room : goal.returns-clause-room
returns-clause-room c =
    let fe : FitsSigned w32 c.read_record-head.result.extent_ofs = search rules in
    let fp : FitsSigned w32 c.read_record-head.result.prev_ofs = search rules in
    let fn : FitsSigned w32 c.read_record-head.result.next_ofs = search rules in
    let k = (keeps_both c.args.draft.now.image c.pass_back.«new».draft.image c.set_deleted.«new».draft.image (keeps_both c.args.draft.now.image c.pass_forward.«new».draft.image c.pass_back.«new».draft.image c.in_ok-pass_forward.ensures.kept c.in_ok-pass_back.ensures.kept) (kept_by c.pass_back.«new».draft c.set_deleted.«new».draft c.args.at.file c.args.at.ofs 16 c.in_ok-set_deleted.ensures.written (record { data_file = own_file c.args.draft.now.image c.requires.0 c.requires.1.0 c.args.node (c.args.at.file, c.args.at.ofs) c.requires.1.1; behind = own_behind c.args.draft.now.image c.requires.0 c.requires.1.0 c.args.node (c.args.at.file, c.args.at.ofs) c.requires.1.1; inside = deleted_asks c.args.draft.now.image c.requires.0 c.requires.1.0 c.args.node (c.args.at.file, c.args.at.ofs) c.requires.1.1 c.natural-ext.result (to_z w32 (of_z w32 c.read_record-head.result.prev_ofs)) (to_z w32 (of_z w32 c.read_record-head.result.next_ofs)) (reads_of c.args.draft.now.image c.requires.0 c.requires.1.0 c.args.node (c.args.at.file, c.args.at.ofs) c.requires.1.1 c.read_record-head.result c.natural-ext.result c.read_record-head.ensures fe fp fn c.natural-ext.ensures) c.pass_forward.«new».draft.image c.in_ok-pass_forward.ensures.heap c.pass_back.«new».draft.image c.in_ok-pass_back.ensures.heap }))) in
    on_ok_weaker c.put_node.result (λ w. room_files c.set_deleted.«new».draft.image c.put_node.«new».draft.image w.0 w.1 ∙ room_kept c.args.draft.now.image c.set_deleted.«new».draft.image k)
    (both_ok _ _ c.put_node.result c.put_node.ensures.lengths c.put_node.ensures.files)

pub returns-clause-constants : goal.returns-clause-constants
returns-clause-constants c =
    let fe : FitsSigned w32 c.read_record-head.result.extent_ofs = search rules in
    let fp : FitsSigned w32 c.read_record-head.result.prev_ofs = search rules in
    let fn : FitsSigned w32 c.read_record-head.result.next_ofs = search rules in
    let k = (keeps_both c.args.draft.now.image c.pass_back.«new».draft.image c.set_deleted.«new».draft.image (keeps_both c.args.draft.now.image c.pass_forward.«new».draft.image c.pass_back.«new».draft.image c.in_ok-pass_forward.ensures.kept c.in_ok-pass_back.ensures.kept) (kept_by c.pass_back.«new».draft c.set_deleted.«new».draft c.args.at.file c.args.at.ofs 16 c.in_ok-set_deleted.ensures.written (record { data_file = own_file c.args.draft.now.image c.requires.0 c.requires.1.0 c.args.node (c.args.at.file, c.args.at.ofs) c.requires.1.1; behind = own_behind c.args.draft.now.image c.requires.0 c.requires.1.0 c.args.node (c.args.at.file, c.args.at.ofs) c.requires.1.1; inside = deleted_asks c.args.draft.now.image c.requires.0 c.requires.1.0 c.args.node (c.args.at.file, c.args.at.ofs) c.requires.1.1 c.natural-ext.result (to_z w32 (of_z w32 c.read_record-head.result.prev_ofs)) (to_z w32 (of_z w32 c.read_record-head.result.next_ofs)) (reads_of c.args.draft.now.image c.requires.0 c.requires.1.0 c.args.node (c.args.at.file, c.args.at.ofs) c.requires.1.1 c.read_record-head.result c.natural-ext.result c.read_record-head.ensures fe fp fn c.natural-ext.ensures) c.pass_forward.«new».draft.image c.in_ok-pass_forward.ensures.heap c.pass_back.«new».draft.image c.in_ok-pass_back.ensures.heap }))) in
    let there = details_same c.args.draft.now.image c.pass_back.«new».draft.image c.args.node c.details-counts.result (keeps_both c.args.draft.now.image c.pass_forward.«new».draft.image c.pass_back.«new».draft.image c.in_ok-pass_forward.ensures.kept c.in_ok-pass_back.ensures.kept) c.requires.1.1.stands.table c.requires.1.1.used c.details-counts.ensures.table in
    on_ok_weaker c.put_node.result (λ w.
    same_constants (ns_in c.args.draft.now.image) (ns_in c.put_node.«new».draft.image) (name_in (node_at (ns_in c.args.draft.now.image) c.args.node))
    (record { node = c.args.node; details = c.details-counts.result }) (record { node = c.args.node; details = c.count_out.«new».counts }) there
    (subst (λ (ns : List ℕ). IsTable ns → table_of (ns_in c.put_node.«new».draft.image) ≡ insert (table_of ns) (name_in (node_at ns c.args.node)) (record { node = c.args.node; details = c.count_out.«new».counts })) k.ns w c.requires.1.1.stands.table)
    refl (sym c.count_out.ensures.constants)) c.put_node.ensures.table
