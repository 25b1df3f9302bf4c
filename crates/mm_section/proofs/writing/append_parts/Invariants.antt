use Rattle.std.proofs.Common.{take, ◌≡◌, ◌++◌}
use Rattle.mm_section.specs.Spells.{entries_bytes, parts_entries}
use Rattle.mm_section.proofs.writing.append_parts.Given as goal

abbrev pub invariant-loop-part : goal.invariant-loop-part
invariant-loop-part l = record { so_far : l.out.items ≡ l.fn.out.items ++ entries_bytes (parts_entries (take l.part-index l.parts)) }
