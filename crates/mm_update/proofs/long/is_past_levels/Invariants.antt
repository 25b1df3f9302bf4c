use Rattle.std.proofs.Common.{◌≡◌, ◌+◌, ◌≤◌, length}
use denote.Text.{Utf8}
use denote.Shadow.{shadow}
use Rattle.std.specs.Prelude.{IfSome}
use Rattle.mm_bson.specs.Path.{names}
use Rattle.mm_update.specs.Paths.{behind, behind_len}
use Rattle.mm_update.proofs.long.is_past_levels.Given as goal

abbrev pub invariant-loop-rest : goal.invariant-loop-rest
invariant-loop-rest l = record {
  text : IfSome l.rest (λ path. shadow (Utf8 path.now));
  few : l.steps ≤ 100;
  counted : l.steps + length (behind l.rest) ≡ length (names l.path);
}

abbrev pub decreases-loop-rest : goal.decreases-loop-rest
decreases-loop-rest l = behind_len l.rest
