use Rattle.std.proofs.Common.{refl, arith}
use Rattle.std.proofs.lemmas.Bool.{false≢true}
use Rattle.mm_extents.proofs.RoomFalls.{room_kept}
use Rattle.mm_records.proofs.Owning.{spot_asks}
use Rattle.mm_records.proofs.StoreLaws.{own_at, long_room, rewritten_pair}
use Rattle.mm_records.proofs.store.RecordStore.write.Goals as goal

pub spot_of-spot-requires : goal.spot_of-spot-requires
spot_of-spot-requires c = spot_asks c.args.draft.now.image c.requires.0 c.requires.1.0 c.args.self.now.node c.requires.1.1.0 c.args.at c.requires.1.1.1.0 c.requires.1.1.1.1

pub room_len-requires : goal.room_len-requires
room_len-requires c = (c.requires.0, (c.requires.1.0, own_at c.args.draft.now.image c.requires.0 c.requires.1.0 c.args.self.now.node c.requires.1.1.0 (c.spot_of-spot.result.file, c.spot_of-spot.result.ofs) c.args.at c.requires.1.1.1.0 c.requires.1.1.1.1 c.spot_of-spot.ensures))

pub returns-then-payload-room_len-clause-fits : goal.returns-then-payload-room_len-clause-fits
returns-then-payload-room_len-clause-fits c = λ free s p room r.
    let long = long_room c.args.draft.now.image free s c.args.self.now.node p (c.spot_of-spot.result.file, c.spot_of-spot.result.ofs) c.args.at room r c.spot_of-spot.ensures c.room_len.result (λ own. c.room_len.ensures.is free s own) in
    let over = c.if-payload-room_len.true in
    (λ e. absurd (false≢true e), λ le. absurd (omega (arith, long, over, le)))

pub overwrite_room-requires : goal.overwrite_room-requires
overwrite_room-requires c =
    let own = own_at c.args.draft.now.image c.requires.0 c.requires.1.0 c.args.self.now.node c.requires.1.1.0 (c.spot_of-spot.result.file, c.spot_of-spot.result.ofs) c.args.at c.requires.1.1.1.0 c.requires.1.1.1.1 c.spot_of-spot.ensures in
    let long = c.room_len.ensures.is c.requires.0 c.requires.1.0 own in
    let fits = c.if-payload-room_len.false in
    record { own = (c.requires.0, (c.requires.1.0, (own, omega (arith, long, fits)))) }

pub returns-clause-fits : goal.returns-clause-fits
returns-clause-fits c = λ free s p room r.
    let long = long_room c.args.draft.now.image free s c.args.self.now.node p (c.spot_of-spot.result.file, c.spot_of-spot.result.ofs) c.args.at room r c.spot_of-spot.ensures c.room_len.result (λ own. c.room_len.ensures.is free s own) in
    let fits = c.if-payload-room_len.false in
    (λ e. omega (arith, long, fits), λ le. refl)

pub returns-clause-stands : goal.returns-clause-stands
returns-clause-stands c = λ free s p room r yes.
    let long = long_room c.args.draft.now.image free s c.args.self.now.node p (c.spot_of-spot.result.file, c.spot_of-spot.result.ofs) c.args.at room r c.spot_of-spot.ensures c.room_len.result (λ own. c.room_len.ensures.is free s own) in
    let fits = c.if-payload-room_len.false in
    rewritten_pair c.args.draft.now.image free s c.args.self.now.node p (c.spot_of-spot.result.file, c.spot_of-spot.result.ofs) c.args.at room r c.spot_of-spot.ensures c.overwrite_room.«new».draft.image 0 c.args.payload.now (omega (arith, long, fits)) (λ own le. c.in_ok-overwrite_room.ensures.stands free s own le)

pub returns-clause-room : goal.returns-clause-room
returns-clause-room c = room_kept c.args.draft.now.image c.overwrite_room.«new».draft.image c.in_ok-overwrite_room.ensures.kept
