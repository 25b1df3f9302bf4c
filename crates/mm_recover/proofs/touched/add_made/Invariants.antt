use Rattle.std.proofs.Common.{take, [], ◌∷◌}
use Rattle.mm_recover.specs.Laying.{made_entry}
use Rattle.mm_recover.specs.Touched.{Adds}
use Rattle.mm_recover.proofs.LayAsks.{all_entries}
use Rattle.mm_recover.proofs.touched.add_made.Given as goal

abbrev pub invariant-loop-made : goal.invariant-loop-made
invariant-loop-made l = Adds (all_entries (λ x. made_entry l.name x ∷ []) (take l.made-index l.all)) l.fn.names l.names
