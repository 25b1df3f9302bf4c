use Rattle.std.proofs.Common.{◌≡◌, ◌++◌, drop}
use Rattle.std.specs.Prelude.{flat_map}
use Rattle.mm_notation.specs.Written.{written_byte, Grows}
use Rattle.mm_script.proofs.writing.put_inside.Given as goal

abbrev pub invariant-loop-byte : goal.invariant-loop-byte
invariant-loop-byte l = record {
  written : l.out.items ++ flat_map written_byte (drop l.byte-index l.text) ≡ l.fn.out.items ++ flat_map written_byte l.text;
  grows : Grows l.fn.out.items l.out.items;
}
