use Rattle.mm_bucket.proofs.Fitting.{fits_kept, fits_removed}
use Rattle.mm_bucket.proofs.bucket.Bucket.remove_at.Goals as goal

pub append-requires-clause-fits : goal.append-requires-clause-fits
append-requires-clause-fits c = fits_kept c.new-new.result c.args.self.now.pairs c.args.place c.new-new.ensures c.len-pairs.ensures.fits

pub append-requires-2-clause-fits : goal.append-requires-2-clause-fits
append-requires-2-clause-fits c =
    fits_removed c.new-new.result c.append.new.self c.args.self.now.pairs c.args.place c.len-pairs.result c.requires c.len-pairs.ensures.len c.new-new.ensures c.append.ensures c.len-pairs.ensures.fits
