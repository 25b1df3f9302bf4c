use Rattle.std.proofs.Common.{subst}
use Rattle.mm_bucket.specs.Layout.{Held}
use Rattle.mm_bucket.proofs.Heading.{fits_always}
use Rattle.mm_bucket.proofs.bucket.Bucket.len.Goals as goal

pub returns-clause-fits : goal.returns-clause-fits
returns-clause-fits c =
    let b = c.self.inside in
    fits_always b.bytes b.count b.begin c.args.self.now (subst (Held b.bytes b.count b.begin) c.self.view_is c.self.invariant)

pub returns-clause-keys : goal.returns-clause-keys
returns-clause-keys c =
    let b = c.self.inside in
    (subst (Held b.bytes b.count b.begin) c.self.view_is c.self.invariant).spelled.laid.keys
