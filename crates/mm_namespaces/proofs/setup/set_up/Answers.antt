use Rattle.std.proofs.Common.{◌∙◌, ◌*◌, ℕ, List, length, ap, arith}
use Rattle.std.proofs.lemmas.Result.{on_ok_weaker}
use Rattle.mm_extents.proofs.FreeWalks.{both_ok}
use Rattle.mm_records.specs.Stands.{ns_in}
use Rattle.mm_namespaces.proofs.SetUps.{alone_kept, zeros_table, absent_zeros, zeros_room, more_room, second_absent, names_long, setup_table, setup_new}
use Rattle.mm_namespaces.proofs.setup.set_up.Goals as goal

pub put_name-requires-clause-table : goal.put_name-requires-clause-table
put_name-requires-clause-table c = zeros_table c.make_names.«new».draft.image (c.args.ns_mib * 1048576) c.in_ok-make_names.ensures.zeros

pub put_name-requires-clause-absent : goal.put_name-requires-clause-absent
put_name-requires-clause-absent c = absent_zeros (ns_in c.make_names.«new».draft.image) (c.args.ns_mib * 1048576) c.args.free.now c.in_ok-make_names.ensures.zeros

pub put_name-requires-clause-room : goal.put_name-requires-clause-room
put_name-requires-clause-room c = zeros_room c.make_names.«new».draft.image (c.args.ns_mib * 1048576) c.in_ok-make_names.ensures.zeros c.in_ok-make_names.ensures.alone

pub put_name-requires-2-clause-absent : goal.put_name-requires-2-clause-absent
put_name-requires-2-clause-absent c =
    let p = c.in_ok-put_name.ensures.put in
    second_absent (ns_in c.make_names.«new».draft.image) (ns_in c.put_name.«new».draft.image) c.args.free.now c.args.indexes.now _ (c.args.ns_mib * 1048576) c.in_ok-make_names.ensures.zeros p.1.1 c.requires.free_name c.requires.indexes_name

pub put_name-requires-2-clause-room : goal.put_name-requires-2-clause-room
put_name-requires-2-clause-room c =
    more_room c.make_names.«new».draft.image c.put_name.«new».draft.image (c.args.ns_mib * 1048576) c.in_ok-put_name.field-0 c.in_ok-make_names.ensures.zeros c.in_ok-make_names.ensures.alone c.in_ok-put_name.ensures.lengths c.in_ok-put_name.ensures.others

pub make_first-requires : goal.make_first-requires
make_first-requires c =
    alone_kept c.put_name.«new».draft.image c.put_name-2.«new».draft.image (alone_kept c.make_names.«new».draft.image c.put_name.«new».draft.image c.in_ok-make_names.ensures.alone c.in_ok-put_name.ensures.lengths) c.in_ok-put_name-2.ensures.lengths

pub returns-clause-new : goal.returns-clause-new
returns-clause-new c = on_ok_weaker c.make_first.result (λ x.
    setup_new c.args.free.now c.args.indexes.now c.requires.free_name c.requires.indexes_name (c.args.ns_mib * 1048576) c.make_names.«new».draft.image c.put_name.«new».draft.image c.put_name-2.«new».draft.image c.make_first.«new».draft.image
    c.in_ok-make_names.ensures.zeros c.in_ok-put_name.field-0 c.in_ok-put_name-2.field-0 c.in_ok-put_name.ensures.put c.in_ok-put_name-2.ensures.put c.put_name-2.ensures.kept x.1.1 x.0 x.1.0)
    (both_ok _ _ c.make_first.result c.make_first.ensures.files (both_ok _ _ c.make_first.result c.make_first.ensures.empty c.make_first.ensures.ns))

pub returns-clause-table : goal.returns-clause-table
returns-clause-table c = on_ok_weaker c.make_first.result (λ e. (
  record { node = c.in_ok-put_name.field-0; details = c.in_ok-put_name.ensures.put.0 },
  record { node = c.in_ok-put_name-2.field-0; details = c.in_ok-put_name-2.ensures.put.0 },
  (
    c.in_ok-put_name.ensures.put.1.0,
    (
      c.in_ok-put_name-2.ensures.put.1.0,
      setup_table c.args.free.now c.args.indexes.now c.requires.free_name c.requires.indexes_name (c.args.ns_mib * 1048576) c.make_names.«new».draft.image c.put_name.«new».draft.image c.put_name-2.«new».draft.image c.make_first.«new».draft.image
          c.in_ok-make_names.ensures.zeros c.in_ok-put_name.field-0 c.in_ok-put_name-2.field-0 c.in_ok-put_name.ensures.put c.in_ok-put_name-2.ensures.put c.put_name-2.ensures.kept e,
    ),
  ),
)) c.make_first.ensures.ns

pub returns-clause-weight : goal.returns-clause-weight
returns-clause-weight c =
    let a = c.make_names.ensures.weight in
    let b = c.put_name.ensures.weight in
    let d = c.put_name-2.ensures.weight in
    let e = c.make_first.ensures.weight in
    omega (arith, a, b, d, e)

pub returns-clause-len : goal.returns-clause-len
returns-clause-len c = on_ok_weaker c.make_first.result (λ e. ap (λ (ns : List ℕ). length ns) e ∙ names_long c.make_names.«new».draft.image c.put_name.«new».draft.image c.put_name-2.«new».draft.image (c.args.ns_mib * 1048576) c.in_ok-make_names.ensures.zeros c.in_ok-make_names.ensures.alone c.in_ok-put_name.ensures.lengths c.in_ok-put_name-2.ensures.lengths) c.make_first.ensures.ns
