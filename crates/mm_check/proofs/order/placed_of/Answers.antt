use Rattle.std.proofs.Common.{◌++◌, ◌∙◌}
use Rattle.mm_check.proofs.order.placed_of.Goals as goal

pub returns : goal.returns
returns c = c.in_ok-extend_from_slice.ensures.items ∙ (λ j. c.in_ok-placed.ensures j ++ (c.deref.ensures.value ∙ c.in_ok-more.ensures) j)
