use Rattle.std.proofs.Common.{◌≡◌, ◌+◌, drop}
use denote.Text.{Utf8}
use denote.Shadow.{shadow}
use Rattle.std.specs.Prelude.{IfSome}
use Rattle.mm_bson.specs.Path.{names}
use Rattle.mm_update.specs.Paths.{behind, behind_len}
use Rattle.mm_update.specs.Meeting.{steps_len}
use Rattle.mm_update.proofs.long.steps_len.Given as goal

abbrev pub invariant-loop-rest : goal.invariant-loop-rest
invariant-loop-rest l = record {
  text : IfSome l.rest (λ path. shadow (Utf8 path.now));
  told : l.len + steps_len (drop l.skip (behind l.rest)) ≡ steps_len (drop l.skipped (names l.path));
}

abbrev pub decreases-loop-rest : goal.decreases-loop-rest
decreases-loop-rest l = behind_len l.rest
