use Rattle.std.proofs.Common.{◌∙◌, None}
use Rattle.mm_views.specs.Held.{state_of}
use Rattle.mm_views.proofs.Sound.{covered_sound}
use Rattle.mm_views.proofs.HeldLemmas.{held_new}
use Rattle.mm_views.proofs.views.Views.new.Goals as goal

pub invariant_of-result : goal.invariant_of-result
invariant_of-result c =
    held_new c.new.result c.new-2.result c.new-4.result c.new-5.result c.new-6.result.items _ _ c.new.ensures c.new-2.ensures (c.new-4.ensures ∙ c.new-3.ensures.items) c.new-5.ensures c.new-6.ensures.items

pub returns-clause-coverage : goal.returns-clause-coverage
returns-clause-coverage c =
    covered_sound (state_of c.new.result c.new-2.result c.new-4.result c.new-5.result c.new-6.result.items None)
    (held_new c.new.result c.new-2.result c.new-4.result c.new-5.result c.new-6.result.items 0 0 c.new.ensures c.new-2.ensures (c.new-4.ensures ∙ c.new-3.ensures.items) c.new-5.ensures c.new-6.ensures.items).sound
