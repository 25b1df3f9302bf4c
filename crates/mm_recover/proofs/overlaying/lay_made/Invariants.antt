use Rattle.std.proofs.Common.{take, [], ◌∷◌}
use Rattle.mm_recover.specs.Laying.{made_entry}
use Rattle.mm_recover.specs.Overlaid.{own_name, LaysOver}
use Rattle.mm_recover.proofs.LayAsks.{all_entries}
use Rattle.mm_recover.proofs.overlaying.lay_made.Given as goal

abbrev pub invariant-loop-made : goal.invariant-loop-made
invariant-loop-made l = LaysOver (all_entries (λ x. made_entry l.name x ∷ []) (take l.made-index l.all)) (own_name l.file) l.fn.content l.content
