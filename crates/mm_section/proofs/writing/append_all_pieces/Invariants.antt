use Rattle.std.proofs.Common.{map, take, ◌≡◌, ◌++◌}
use Rattle.mm_section.specs.Spells.{entries_bytes, put_of}
use Rattle.mm_section.proofs.writing.append_all_pieces.Given as goal

abbrev pub invariant-loop-piece : goal.invariant-loop-piece
invariant-loop-piece l = record { so_far : l.out.items ≡ l.fn.out.items ++ entries_bytes (map put_of (take l.piece-index l.all)) }
