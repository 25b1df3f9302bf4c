use Rattle.std.proofs.Common.{take, [], ◌∷◌}
use Rattle.mm_recover.specs.Laying.{piece_entry}
use Rattle.mm_recover.specs.Touched.{Adds}
use Rattle.mm_recover.proofs.LayAsks.{all_entries}
use Rattle.mm_recover.proofs.touched.add_pieces.Given as goal

abbrev pub invariant-loop-piece : goal.invariant-loop-piece
invariant-loop-piece l = Adds (all_entries (λ x. piece_entry l.name x ∷ []) (take l.piece-index l.pieces)) l.fn.names l.names
