use Rattle.std.proofs.Common.{◌≡◌, List, true, subst}
use Rattle.mm_ranges.specs.Places.{Range, is_normal}
use Rattle.mm_ranges.proofs.Unique.{one_normal_form}
use Rattle.mm_ranges.proofs.range_set.one_normal_form.Goals as goal

pub returns : goal.returns
returns c =
    one_normal_form c.args.a.now c.args.b.now
    (subst (λ (rs : List Range). is_normal rs ≡ true) c.a.view_is c.a.invariant)
    (subst (λ (rs : List Range). is_normal rs ≡ true) c.b.view_is c.b.invariant)
    c.requires
