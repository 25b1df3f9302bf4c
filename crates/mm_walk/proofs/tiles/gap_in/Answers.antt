use Rattle.std.proofs.Common.{ℕ, ◌∙◌, ap, List, rules}
use Rattle.std.specs.List.Sorted.{IsNonDecreasingBy}
use Rattle.std.proofs.lemmas.List.Sorted.{IsNonDecreasingBy-from_sort_by_key}
use Rattle.mm_walk.specs.Tiles.{Block, first_gap}
use Rattle.mm_walk.proofs.Sorted.{sorted_is_rising}
use Rattle.mm_walk.proofs.tiles.gap_in.Goals as goal

pub returns : goal.returns
returns c = λ bs p r.
    let sorted : IsNonDecreasingBy (λ (b : Block). b.0) c.sort_by_key.new.self.items = IsNonDecreasingBy-from_sort_by_key (λ (b : Block). b.0) _ c.in_ok-sort_by_key.ensures.sorted (λ a q k l. search rules) in
    c.first_gap.ensures ∙ ap (λ (xs : List Block). first_gap c.args.from xs c.args.end) (c.deref.ensures.value ∙ sorted_is_rising c.args.blocks.now.items c.sort_by_key.new.self.items bs c.in_ok-sort_by_key.ensures.permutation p sorted r)
