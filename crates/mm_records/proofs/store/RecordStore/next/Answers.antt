use Rattle.mm_records.proofs.Owning.{spot_asks}
use Rattle.mm_records.proofs.StoreLaws.{own_at, next_pair}
use Rattle.mm_records.proofs.store.RecordStore.next.Goals as goal

pub spot_of-requires : goal.spot_of-requires
spot_of-requires c = spot_asks c.args.draft.now.image c.requires.0 c.requires.1.0 c.args.self.now.node c.requires.1.1.0 c.args.at c.requires.1.1.1.0 c.requires.1.1.1.1

pub next_of-requires : goal.next_of-requires
next_of-requires c = (c.requires.0, (c.requires.1.0, own_at c.args.draft.now.image c.requires.0 c.requires.1.0 c.args.self.now.node c.requires.1.1.0 (c.spot_of.result.file, c.spot_of.result.ofs) c.args.at c.requires.1.1.1.0 c.requires.1.1.1.1 c.spot_of.ensures))

pub returns : goal.returns
returns c = λ free s p room r. next_pair c.args.draft.now.image free s c.args.self.now.node p (c.spot_of.result.file, c.spot_of.result.ofs) c.args.at room r c.spot_of.ensures c.next_of.result (λ own. c.next_of.ensures free s own)
