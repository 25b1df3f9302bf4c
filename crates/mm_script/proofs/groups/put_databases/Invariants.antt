use Rattle.std.proofs.Common.{◌≡◌, ◌++◌, drop}
use Rattle.std.specs.Prelude.{flat_map}
use Rattle.mm_notation.specs.Written.{Grows}
use Rattle.mm_script.specs.Groups.{database_text}
use Rattle.mm_script.proofs.groups.put_databases.Given as goal

abbrev pub invariant-loop-entry : goal.invariant-loop-entry
invariant-loop-entry l = record {
  written : l.out.items ++ flat_map database_text (drop l.entry-index l.entries) ≡ l.fn.out.items ++ flat_map database_text l.entries;
  grows : Grows l.fn.out.items l.out.items;
}
