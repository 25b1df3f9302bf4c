use Rattle.std.proofs.Common.{◌≡◌, ◌≤◌, ◌-◌, ◌++◌}
use Rattle.mm_generator.specs.Generator.{flushes}
use Rattle.mm_generator.proofs.lines.push_flushes.Given as goal

abbrev pub invariant-databases : goal.invariant-databases
invariant-databases l = record {
  within : l.db ≤ l.databases;
  so_far : l.actions.items ++ flushes l.line l.db (l.databases - l.db) ≡ l.fn.actions.items ++ flushes l.line 0 l.databases;
}

abbrev pub decreases-databases : goal.decreases-databases
decreases-databases l = l.databases - l.db
