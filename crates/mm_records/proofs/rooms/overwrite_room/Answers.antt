use Rattle.std.proofs.Common.{◌≡◌, length, refl, arith, rules}
use Rattle.std.proofs.lemmas.Result.{on_ok_weaker}
use Rattle.mm_records.proofs.FreeCall.{own_inside}
use Rattle.mm_records.proofs.FreeSteps.{both_ok}
use Rattle.mm_records.proofs.RoomLaws.{short_room, none_written, keeps, some_written}
use Rattle.mm_records.proofs.rooms.overwrite_room.Goals as goal

pub returns-then-is_empty-clause-stands : goal.returns-then-is_empty-clause-stands
returns-then-is_empty-clause-stands c = λ free s own le.
    let none : length c.args.bytes.now ≡ 0 = search rules in
    none_written c.args.draft.now.image free s c.args.node (c.args.at.file, c.args.at.ofs) own c.args.from c.args.bytes.now none le

pub set_room-requires-clause-short : goal.set_room-requires-clause-short
set_room-requires-clause-short c =
    let i = short_room c.args.draft.now.image c.requires.own.0 c.requires.own.1.0 c.args.node (c.args.at.file, c.args.at.ofs) c.requires.own.1.1.0 in
    let le = c.requires.own.1.1.1 in
    omega (arith, i, le)

pub set_room-requires-clause-place : goal.set_room-requires-clause-place
set_room-requires-clause-place c =
    let i = short_room c.args.draft.now.image c.requires.own.0 c.requires.own.1.0 c.args.node (c.args.at.file, c.args.at.ofs) c.requires.own.1.1.0 in
    let le = c.requires.own.1.1.1 in
    omega (arith, i, le)

pub set_room-requires-clause-inside : goal.set_room-requires-clause-inside
set_room-requires-clause-inside c =
    let i = own_inside c.args.draft.now.image c.requires.own.0 c.requires.own.1.0 c.args.node (c.args.at.file, c.args.at.ofs) c.requires.own.1.1.0 in
    let le = c.requires.own.1.1.1 in
    omega (arith, i, le)

pub returns-clause-stands : goal.returns-clause-stands
returns-clause-stands c = on_ok_weaker c.set_room.result (λ w free s own le.
    some_written c.args.draft.now.image free s c.args.node (c.args.at.file, c.args.at.ofs) own c.args.draft.now c.set_room.«new».draft c.args.from c.args.bytes.now w.0 refl le
    (w.1 s.heap own.h own.room own.stands.heap own.here le)) (both_ok _ _ c.set_room.result c.set_room.ensures.ok c.set_room.ensures.heap)

pub returns-clause-ns : goal.returns-clause-ns
returns-clause-ns c =
    let own = c.requires.own.1.1.0 in
    on_ok_weaker c.set_room.result (λ e.
    (keeps c.args.draft.now.image c.requires.own.0 c.requires.own.1.0 c.args.node (c.args.at.file, c.args.at.ofs) own c.args.draft.now c.set_room.«new».draft c.args.from c.args.bytes.now e refl c.requires.own.1.1.1).ns) c.set_room.ensures.ok

pub returns-then-is_empty-clause-kept : goal.returns-then-is_empty-clause-kept
returns-then-is_empty-clause-kept c = record { lengths = λ f. refl; ns = refl; headers = λ f. refl }

pub returns-clause-kept : goal.returns-clause-kept
returns-clause-kept c =
    let own = c.requires.own.1.1.0 in
    on_ok_weaker c.set_room.result (λ e.
    keeps c.args.draft.now.image c.requires.own.0 c.requires.own.1.0 c.args.node (c.args.at.file, c.args.at.ofs) own c.args.draft.now c.set_room.«new».draft c.args.from c.args.bytes.now e refl c.requires.own.1.1.1) c.set_room.ensures.ok
