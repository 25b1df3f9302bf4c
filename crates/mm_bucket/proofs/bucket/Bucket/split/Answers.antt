use Rattle.mm_bucket.proofs.Fitting.{split_right, fits_kept}
use Rattle.mm_bucket.proofs.bucket.Bucket.split.Goals as goal

pub append-requires-clause-fits : goal.append-requires-clause-fits
append-requires-clause-fits c = split_right c.new-new_right.result c.args.self.now.pairs c.len-pairs.result c.cut-cut.result c.new-new_right.ensures c.len-pairs.ensures.len c.len-pairs.ensures.fits

pub append-requires-2-clause-fits : goal.append-requires-2-clause-fits
append-requires-2-clause-fits c = fits_kept c.new-new_left.result c.args.self.now.pairs c.cut-cut.result c.new-new_left.ensures c.len-pairs.ensures.fits
