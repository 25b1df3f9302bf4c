use Rattle.std.proofs.Common.{refl, ◌∙◌}
use Rattle.mm_base.specs.Places.{null}
use Rattle.mm_base.proofs.PlaceLaws.{place_same}
use Rattle.mm_bucket.proofs.bucket.Bucket.new.Goals as goal

pub returns : goal.returns
returns c =
    let none = place_same _ null refl refl in
    c.finish.ensures ∙ λ i. record { parent = c.args.parent; pairs = c.new.ensures i; next = none i }
