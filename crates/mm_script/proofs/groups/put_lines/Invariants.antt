use Rattle.std.proofs.Common.{◌≡◌, ◌++◌, drop}
use Rattle.std.specs.Prelude.{flat_map}
use Rattle.mm_notation.specs.Written.{Grows}
use Rattle.mm_script.specs.Groups.{entry_text}
use Rattle.mm_script.proofs.groups.put_lines.Given as goal

abbrev pub invariant-loop-line : goal.invariant-loop-line
invariant-loop-line l = record {
  written : l.out.items ++ flat_map entry_text (drop l.line-index l.lines) ≡ l.fn.out.items ++ flat_map entry_text l.lines;
  grows : Grows l.fn.out.items l.out.items;
}
