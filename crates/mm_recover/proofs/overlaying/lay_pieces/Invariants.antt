use Rattle.std.proofs.Common.{take, [], ◌∷◌}
use Rattle.mm_recover.specs.Laying.{piece_entry}
use Rattle.mm_recover.specs.Overlaid.{own_name, LaysOver}
use Rattle.mm_recover.proofs.LayAsks.{all_entries}
use Rattle.mm_recover.proofs.overlaying.lay_pieces.Given as goal

abbrev pub invariant-loop-piece : goal.invariant-loop-piece
invariant-loop-piece l = LaysOver (all_entries (λ x. piece_entry l.name x ∷ []) (take l.piece-index l.pieces)) (own_name l.file) l.fn.content l.content
