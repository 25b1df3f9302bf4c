use Rattle.std.proofs.Common.{◌<◌, ◌^◌, ℕ, true, List, ◌++◌, ◌∷◌, [], sym, subst, arith}
use Rattle.std.specs.Ordering.{nat_cmp}
use Rattle.std.specs.BTreeSet.{Updates}
use Rattle.mm_links.specs.Links.{Place}
use Rattle.mm_walk.specs.Walk.{Knows}
use Rattle.mm_walk.proofs.WalkLaws.{knows_push}
use Rattle.mm_check.proofs.Chained.{append_nil}
use Rattle.mm_check.proofs.places.add.Goals as goal

pub returns : goal.returns
returns c seen k =
    let small : c.args.ofs < 2 ^ 32 = omega arith in
    subst (λ (xs : List Place). Knows c.insert.new.self xs) (append_nil (seen ++ (c.args.file, c.args.ofs) ∷ []))
    (knows_push c.args.set.now c.insert.new.self [] seen (c.args.file, c.args.ofs) small (subst (λ (xs : List Place). Knows c.args.set.now xs) (sym (append_nil seen)) k)
    (subst (λ (n : ℕ). Updates nat_cmp c.args.set.now c.insert.new.self n true) c.key.ensures c.in_ok-insert.ensures.updates))
