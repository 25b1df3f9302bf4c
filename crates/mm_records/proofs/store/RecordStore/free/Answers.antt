use Rattle.std.proofs.lemmas.Result.{on_ok_weaker}
use Rattle.mm_records.proofs.FreeSteps.{both_ok}
use Rattle.mm_records.proofs.Owning.{spot_asks}
use Rattle.mm_records.proofs.StoreLaws.{own_at, freed_pair}
use Rattle.mm_records.proofs.store.RecordStore.free.Goals as goal

pub spot_of-requires : goal.spot_of-requires
spot_of-requires c = spot_asks c.args.draft.now.image c.requires.0 c.requires.1.0 c.args.self.now.node c.requires.1.1.0 c.args.at c.requires.1.1.1.0 c.requires.1.1.1.1

pub free_at-requires : goal.free_at-requires
free_at-requires c = (c.requires.0, (c.requires.1.0, own_at c.args.draft.now.image c.requires.0 c.requires.1.0 c.args.self.now.node c.requires.1.1.0 (c.spot_of.result.file, c.spot_of.result.ofs) c.args.at c.requires.1.1.1.0 c.requires.1.1.1.1 c.spot_of.ensures))

pub returns-clause-stands : goal.returns-clause-stands
returns-clause-stands c = on_ok_weaker c.free_at.result (λ w free s p room r.
    freed_pair c.args.draft.now.image free s c.args.self.now.node p (c.spot_of.result.file, c.spot_of.result.ofs) c.args.at room r c.spot_of.ensures c.free_at.«new».draft.image (λ own. w.0 free s own) (λ own. w.1 free s own))
    (both_ok _ _ c.free_at.result c.free_at.ensures.stands c.free_at.ensures.map)
