use Rattle.mm_bucket.specs.Pairs.{Pair}
use Rattle.mm_bucket.proofs.Fitting.{fits_inserted, fits_taken, fits_put, fits_rest}
use Rattle.mm_bucket.proofs.bucket.Bucket.insert_at.Goals as goal

pub append-requires-clause-fits : goal.append-requires-clause-fits
append-requires-clause-fits c =
    let p : Pair = record { left = c.args.left; rec = c.args.rec; key = c.args.key.now } in
    fits_taken c.new-new.result c.args.self.now.pairs c.args.place p c.new-new.ensures (fits_inserted c.args.self.now.pairs c.args.place p c.requires.fits)

pub push-requires-clause-fits : goal.push-requires-clause-fits
push-requires-clause-fits c =
    let p : Pair = record { left = c.args.left; rec = c.args.rec; key = c.args.key.now } in
    fits_put c.new-new.result c.append.new.self c.args.self.now.pairs c.args.place p c.new-new.ensures c.append.ensures (fits_inserted c.args.self.now.pairs c.args.place p c.requires.fits)

pub append-requires-2-clause-fits : goal.append-requires-2-clause-fits
append-requires-2-clause-fits c =
    let p : Pair = record { left = c.args.left; rec = c.args.rec; key = c.args.key.now } in
    fits_rest c.new-new.result c.append.new.self c.push.new.self c.args.self.now.pairs c.args.place c.len-pairs.result p c.new-new.ensures c.append.ensures c.push.ensures c.len-pairs.ensures.len
    (fits_inserted c.args.self.now.pairs c.args.place p c.requires.fits)
