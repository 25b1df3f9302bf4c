use Rattle.std.proofs.Common.{◌≡◌, ◌≤◌, ◌+◌, ◌-◌, ◌++◌, length}
use Rattle.mm_generator.specs.Generator.{bulk_lines, generated}
use Rattle.mm_generator.proofs.lines.generate.Given as goal

abbrev pub invariant-lines : goal.invariant-lines
invariant-lines l = record {
  within : l.line ≤ l.count;
  so_far : l.actions.items ++ bulk_lines (length l.names) (l.line + 1) l.draws (l.count - l.line) ≡ generated l.seed l.count (length l.names);
}

abbrev pub decreases-lines : goal.decreases-lines
decreases-lines l = l.count - l.line
