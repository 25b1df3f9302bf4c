use Rattle.std.proofs.Common.{ℕ, List, ◌++◌, ◌∙◌, ap}
use Rattle.std.proofs.lemmas.Result.{on_ok_weaker}
use Rattle.mm_records.proofs.Owning.{spot_asks}
use Rattle.mm_records.proofs.StoreLaws.{own_at, room_read}
use Rattle.mm_records.proofs.store.RecordStore.payload.Goals as goal

pub spot_of-spot-requires : goal.spot_of-spot-requires
spot_of-spot-requires c = spot_asks c.args.draft.now.image c.requires.0 c.requires.1.0 c.args.self.now.node c.requires.1.1.0 c.args.at c.requires.1.1.1.0 c.requires.1.1.1.1

pub room_len-len-requires : goal.room_len-len-requires
room_len-len-requires c = (c.requires.0, (c.requires.1.0, own_at c.args.draft.now.image c.requires.0 c.requires.1.0 c.args.self.now.node c.requires.1.1.0 (c.spot_of-spot.result.file, c.spot_of-spot.result.ofs) c.args.at c.requires.1.1.1.0 c.requires.1.1.1.1 c.spot_of-spot.ensures))

pub returns-clause-ok : goal.returns-clause-ok
returns-clause-ok c = on_ok_weaker c.push_bytes.result (λ e free s p room r.
    e ∙ ap (λ (xs : List ℕ). c.args.out.now.items ++ xs) (room_read c.args.draft.now.image free s c.args.self.now.node p (c.spot_of-spot.result.file, c.spot_of-spot.result.ofs) c.args.at room r c.spot_of-spot.ensures c.room_len-len.result (λ own. c.room_len-len.ensures.is free s own))) c.push_bytes.ensures.ok
