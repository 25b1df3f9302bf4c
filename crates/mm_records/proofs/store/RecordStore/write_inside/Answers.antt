use Rattle.std.proofs.Common.{◌+◌, length}
use Rattle.std.proofs.lemmas.Result.{on_ok_weaker}
use Rattle.mm_extents.proofs.RoomFalls.{room_kept}
use Rattle.mm_records.proofs.Owning.{spot_asks}
use Rattle.mm_records.proofs.StoreLaws.{own_at, fits_own, rewritten_pair}
use Rattle.mm_records.proofs.store.RecordStore.write_inside.Goals as goal

pub spot_of-requires : goal.spot_of-requires
spot_of-requires c = spot_asks c.args.draft.now.image c.requires.0 c.requires.1.0 c.args.self.now.node c.requires.1.1.0 c.args.at c.requires.1.1.1.0 c.requires.1.1.1.1.0

pub overwrite_room-requires : goal.overwrite_room-requires
overwrite_room-requires c =
    let own = own_at c.args.draft.now.image c.requires.0 c.requires.1.0 c.args.self.now.node c.requires.1.1.0 (c.spot_of.result.file, c.spot_of.result.ofs) c.args.at c.requires.1.1.1.0 c.requires.1.1.1.1.0 c.spot_of.ensures in
    record { own = (c.requires.0, (c.requires.1.0, (own, fits_own c.args.draft.now.image c.requires.0 c.requires.1.0 c.args.self.now.node c.requires.1.1.0 (c.spot_of.result.file, c.spot_of.result.ofs) c.args.at c.requires.1.1.1.0 c.requires.1.1.1.1.0 c.spot_of.ensures (c.args.from + length c.args.bytes.now) c.requires.1.1.1.1.1))) }

pub returns-clause-stands : goal.returns-clause-stands
returns-clause-stands c = on_ok_weaker c.overwrite_room.result (λ w free s p room r le.
    rewritten_pair c.args.draft.now.image free s c.args.self.now.node p (c.spot_of.result.file, c.spot_of.result.ofs) c.args.at room r c.spot_of.ensures c.overwrite_room.«new».draft.image c.args.from c.args.bytes.now le (λ own fits. w free s own fits)) c.overwrite_room.ensures.stands

pub returns-clause-room : goal.returns-clause-room
returns-clause-room c = on_ok_weaker c.overwrite_room.result (λ k. room_kept c.args.draft.now.image c.overwrite_room.«new».draft.image k) c.overwrite_room.ensures.kept
