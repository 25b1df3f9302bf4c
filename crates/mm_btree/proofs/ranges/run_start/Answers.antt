use Rattle.std.proofs.Common.{Option, Some, sym, subst}
use Rattle.mm_bson.specs.Tree.{Elements}
use Rattle.mm_btree.specs.Listed.{IsStart}
use Rattle.mm_btree.proofs.Ranged.{starts_at}
use Rattle.mm_btree.proofs.ranges.run_start.Goals as goal

pub returns-in-Some : goal.returns-in-Some
returns-in-Some c =
    let spec = c.args.spec.now in
    let ps = c.args.bucket.now.pairs in
    let r = c.first_not_less.result in
    subst (λ (low : Option Elements). IsStart spec low ps r) (sym c.in-Some.is)
    (subst (λ (key : Elements). IsStart spec (Some key) ps r) c.as_ref.ensures (starts_at spec c.as_ref.result ps r c.first_not_less.ensures.inside c.first_not_less.ensures.is))
