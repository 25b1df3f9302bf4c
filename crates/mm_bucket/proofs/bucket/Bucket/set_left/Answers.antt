use Rattle.std.proofs.Common.{length, ap}
use Rattle.mm_bucket.specs.Pairs.{Pair}
use Rattle.mm_bucket.proofs.Fitting.{fits_kept, fits_swap, fits_after}
use Rattle.mm_bucket.proofs.bucket.Bucket.set_left.Goals as goal

pub append-requires-clause-fits : goal.append-requires-clause-fits
append-requires-clause-fits c = fits_kept c.new-new.result c.args.self.now.pairs c.args.place c.new-new.ensures c.len-pairs.ensures.fits

pub push-requires-clause-fits : goal.push-requires-clause-fits
push-requires-clause-fits c =
    let p : Pair = record { left = c.args.left; rec = c.rec.result; key = c.key.result.now } in
    fits_swap c.new-new.result c.append.new.self c.args.self.now.pairs c.args.place p c.requires (ap length c.key.ensures.is) c.new-new.ensures c.append.ensures c.len-pairs.ensures.fits

pub append-requires-2-clause-fits : goal.append-requires-2-clause-fits
append-requires-2-clause-fits c =
    let p : Pair = record { left = c.args.left; rec = c.rec.result; key = c.key.result.now } in
    fits_after c.new-new.result c.append.new.self c.push.new.self c.args.self.now.pairs c.args.place c.len-pairs.result p c.requires (ap length c.key.ensures.is) c.new-new.ensures c.append.ensures c.push.ensures c.len-pairs.ensures.len
    c.len-pairs.ensures.fits
