use Rattle.std.proofs.Common.{drop}
use Rattle.std.specs.Prelude.{◌↔◌}
use Rattle.mm_bson.specs.Spelling.{HasNoZero}
use Rattle.mm_bson.proofs.text.has_no_zero.Given as goal

abbrev pub invariant-loop-byte : goal.invariant-loop-byte
invariant-loop-byte l = HasNoZero (drop l.byte-index l.bytes) ↔ HasNoZero l.bytes
