use Rattle.std.proofs.Common.{map, take, ◌≡◌, ◌++◌}
use Rattle.mm_section.specs.Spells.{entries_bytes, make_of}
use Rattle.mm_section.proofs.writing.append_all_made.Given as goal

abbrev pub invariant-loop-made : goal.invariant-loop-made
invariant-loop-made l = record { so_far : l.out.items ≡ l.fn.out.items ++ entries_bytes (map make_of (take l.made-index l.all)) }
