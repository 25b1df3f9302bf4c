use Rattle.std.proofs.Common.{◌≡◌, drop}
use Rattle.mm_script.specs.Lines.{is_skipped}
use Rattle.mm_script.proofs.script.is_skipped.Given as goal

abbrev pub invariant-loop-byte : goal.invariant-loop-byte
invariant-loop-byte l = is_skipped (drop l.byte-index l.line) ≡ is_skipped l.line
