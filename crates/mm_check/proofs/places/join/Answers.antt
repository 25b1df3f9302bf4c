use Rattle.std.proofs.Common.{ℕ, List, Vec, Global, map, ap, ◌∙◌, ◌++◌}
use Rattle.std.proofs.lemmas.List.{take_all}
use Rattle.mm_links.specs.Links.{Place}
use Rattle.mm_check.specs.Findings.{joined}
use Rattle.mm_check.proofs.Chained.{joined_next}
use Rattle.mm_check.proofs.places.join.Goals as goal

pub loop-places-preserved : goal.loop-places-preserved
loop-places-preserved c =
    joined_next {V = Vec (ℕ × ℕ) Global} (λ ps. ps.items) c.loop-places.all.items c.extend_from_slice.new.self.items c.args.lists.now c.loop-places.places-index c.places-item.result _ c.loop-places.invariant c.loop-places-test.true c.places-item.is
    (c.in_ok-extend_from_slice.ensures.items ∙ ap (λ (xs : List Place). c.loop-places.all.items ++ xs) c.deref.ensures.value)

pub returns : goal.returns
returns c = c.loop-places.invariant ∙ ap (λ (xs : List (Vec (ℕ × ℕ) Global)). joined (map (λ ps. ps.items) xs)) (take_all c.loop-places.places-index c.args.lists.now c.loop-places-test.false)
